-- Pages of a list and whole lists, as an office returns them.
use Rattle.std.specs.Prelude.{◌≡◌, ℕ, List, [], ◌∷◌, ◌++◌, Option, Some, None, Result, Ok, Err}
use Rattle.reg_core.specs.Checks.{clock_checks, first_refusal}
use Rattle.reg_core.specs.Records.{Records}
use Rattle.reg_core.specs.Sound.{SoundRows}
use Rattle.reg_core.specs.declared.refusal.Fault.{Fault}
use Rattle.reg_core.specs.declared.refusal.Fault.TheVariants.{Refused, Memory, Store, Signer, Read, Write}
use Rattle.reg_core_lists.specs.Filters.{filtered_rows}
use Rattle.reg_core_lists.specs.Lists.{page, rows_from}
use Rattle.reg_core_lists.specs.Texts.{list_text}
use Rattle.reg_core_lists.specs.declared.cursor.Cursor.{Cursor}
use Rattle.reg_core_lists.specs.declared.filter.Filter.{Filter}
use Rattle.reg_core_lists.specs.declared.rows.Page.{Page}
use Rattle.reg_core_lists.specs.declared.rows.Row.{Row}
use Rattle.reg_core_lists.specs.declared.texts.Format.{Format}

-- the returned page is that of the records at a moment
pub record IsPage (records : Records) (now most : ℕ) (from : Cursor) (given : Page) : Type 0 where
  pub rows : given.rows.items ≡ (page records now most from).rows
  pub next : given.next ≡ (page records now most from).next

-- the result for a page of a list: the page, if the checks of the clock pass; else their refusal; or a fault of memory or
-- of the store
abbrev pub IsPaged : Records → ℕ → ℕ → Cursor → Result Page Fault → Type 0
IsPaged records now most from (Ok given) =
    (first_refusal (clock_checks now records.last) ≡ None) × IsPage records now most from given
IsPaged records now most from (Err (Refused refusal)) =
    first_refusal (clock_checks now records.last) ≡ Some refusal
IsPaged records now most from (Err Memory) = Unit {0}
IsPaged records now most from (Err Store) = Unit {0}
IsPaged records now most from (Err Signer) = ⊥
IsPaged records now most from (Err Read) = ⊥
IsPaged records now most from (Err Write) = ⊥

-- the rows of the records are sound, and this is the result for a page of a list
abbrev pub IsPageOfSoundRows : Records → ℕ → ℕ → Cursor → Result Page Fault → Type 0
IsPageOfSoundRows records now most from given = SoundRows records × IsPaged records now most from given

-- the rows of the records are sound, this is the result for a page of a list, and the call leaves the records as they are
abbrev pub Pages : Records → ℕ → ℕ → Cursor → Result Page Fault → Records → Type 0
Pages before now most from given after = IsPageOfSoundRows before now most from given × (after ≡ before)

-- these are the rows of the pages from a cursor on, one page after another up to the last
abbrev pub ArePages : Records → ℕ → ℕ → Option Cursor → List Row → List (List Row) → Type 0
ArePages records now most None rows [] = rows ≡ []
ArePages records now most None rows (first ∷ rest) = ⊥
ArePages records now most (Some from) rows [] = ⊥
ArePages records now most (Some from) rows (first ∷ rest) =
    (first ≡ (page records now most from).rows)
    × ((others : List Row) × (rows ≡ first ++ others)
    × ArePages records now most (page records now most from).next others rest)

-- the result for a whole list as a text: all its rows from a cursor on that pass the filter, each once and in order, if the checks of
-- the clock pass; else their refusal; or a fault of memory or of the store
abbrev pub IsWholeList : Records → ℕ → Format → Filter → Cursor → Result (List ℕ) Fault → Type 0
IsWholeList records now form wanted from (Ok text) =
    (first_refusal (clock_checks now records.last) ≡ None)
    × (text ≡ list_text form from (filtered_rows wanted (rows_from records now from)))
IsWholeList records now form wanted from (Err (Refused refusal)) =
    first_refusal (clock_checks now records.last) ≡ Some refusal
IsWholeList records now form wanted from (Err Memory) = Unit {0}
IsWholeList records now form wanted from (Err Store) = Unit {0}
IsWholeList records now form wanted from (Err Signer) = ⊥
IsWholeList records now form wanted from (Err Read) = ⊥
IsWholeList records now form wanted from (Err Write) = ⊥

-- the result for a whole list, and the call leaves the records as they are
abbrev pub GivesWholeList : Records → ℕ → Format → Filter → Cursor → Result (List ℕ) Fault → Records → Type 0
GivesWholeList before now form wanted from given after =
    IsWholeList before now form wanted from given × (after ≡ before)
