-- The grounds of revocation: the name, the time limit and the reasonCode of each.
use Rattle.std.specs.Prelude.{ℕ, List, [], ◌∷◌, Option, Some, None, find, option_map, unwrap_or, Result, Ok, Err, bytes_eq, codes, cond}
use Rattle.reg_core.specs.declared.grounds.Ground.{Ground}
use Rattle.reg_core.specs.declared.grounds.Ground.TheVariants.{Asked, Unauthorized, KeyCompromise, ControlLost, Affiliation, Superseded, Cessation, Misuse, NameNotPermitted, Nonconforming, Inaccurate}
use Rattle.reg_core.specs.declared.refusal.Refusal.{Refusal}
use Rattle.reg_core.specs.declared.refusal.Refusal.TheVariants.{NoHold, BadGround}

-- the seconds from the receipt of a request on this ground to its deadline: one day, or five
abbrev pub limit_of : Ground → ℕ
limit_of Asked = 86400
limit_of Unauthorized = 86400
limit_of KeyCompromise = 86400
limit_of ControlLost = 86400
limit_of Affiliation = 86400
limit_of Superseded = 86400
limit_of Cessation = 86400
limit_of Misuse = 432000
limit_of NameNotPermitted = 432000
limit_of Nonconforming = 432000
limit_of Inaccurate = 432000

-- the reasonCode of a revocation on the ground (RFC 5280 5.3.1)
abbrev pub reason_of : Ground → ℕ
reason_of Asked = 0  -- unspecified
reason_of Unauthorized = 9  -- privilegeWithdrawn
reason_of KeyCompromise = 1  -- keyCompromise
reason_of ControlLost = 4  -- superseded
reason_of Affiliation = 3  -- affiliationChanged
reason_of Superseded = 4  -- superseded
reason_of Cessation = 5  -- cessationOfOperation
reason_of Misuse = 9  -- privilegeWithdrawn
reason_of NameNotPermitted = 5  -- cessationOfOperation
reason_of Nonconforming = 4  -- superseded
reason_of Inaccurate = 9  -- privilegeWithdrawn

-- each ground with its name
abbrev pub ground_words : List (List ℕ × Ground)
ground_words =
    (codes "asked", Asked)
    ∷ (codes "unauthorized", Unauthorized)
    ∷ (codes "key-compromise", KeyCompromise)
    ∷ (codes "control-lost", ControlLost)
    ∷ (codes "affiliation", Affiliation)
    ∷ (codes "superseded", Superseded)
    ∷ (codes "cessation", Cessation)
    ∷ (codes "misuse", Misuse)
    ∷ (codes "name-not-permitted", NameNotPermitted)
    ∷ (codes "nonconforming", Nonconforming)
    ∷ (codes "inaccurate", Inaccurate)
    ∷ []

-- the ground with this name, if there is one
abbrev pub ground_named : List ℕ → Option Ground
ground_named word = option_map (λ row. row.1) (find (λ row. bytes_eq word row.0) ground_words)

-- the ground with this name, or `other` if there is none
abbrev pub ground_or : Ground → List ℕ → Ground
ground_or other word = unwrap_or (ground_named word) other

-- the ground that was found for a word, or the refusal: `NoHold` for `hold`, since no certificate is put on hold, else `BadGround`
abbrev pub found_or_refusal : List ℕ → Option Ground → Result Ground Refusal
found_or_refusal word (Some named) = Ok named
found_or_refusal word None = Err (cond (bytes_eq word (codes "hold")) NoHold BadGround)

-- the ground with this name, or the refusal
abbrev pub ground_or_refusal : List ℕ → Result Ground Refusal
ground_or_refusal word = found_or_refusal word (ground_named word)
