-- What clap's contracts state about the whole command line.
use Rattle.std.proofs.Common.{◌≡◌, ◌⊎◌, true, List, [], Option, Some, None, Bor, refl, sym, ap, ◌∙◌, subst, inl, inr}
use Rattle.std.specs.Prelude.{option_map}
use Rattle.clap.specs.Words.{App, HasKind, HasMatchesOf, IsAmong, Row, Text, fault_of, is_simple, is_simple_and_free, matches_of, subcommand_of, found_of, rows_of, subcommand_name_of, subcommand_rows_of}
use Rattle.clap.specs.declared.error.Error.{Error}
use Rattle.clap.specs.declared.error.kind.ErrorKind.{ErrorKind}
use Rattle.clap.specs.declared.error.kind.ErrorKind.TheVariants.{OutOfMemory}
use Rattle.clap.proofs.OnLiterals.{clap_on_literals}
use Rattle.std.specs.Box.{box_value}
use Rattle.clap.specs.declared.parser.matches.ArgMatches.{ArgMatches}
use Rattle.clap.specs.declared.parser.matches.ArgMatches.TheViews.{out-ArgMatches, out-SubCommand}
use Rattle.reg_desk_cli.specs.Desk.{desk_app}
use Rattle.reg_desk_cli.specs.Jobs.{ClapAccepts, IsNoInvocation, IsInvocationIn, IsInvocationOf, IsUsageOf, PrintsUsage, job_found}
use Rattle.reg_desk_cli.specs.declared.job.Invocation.{Invocation}
use Rattle.reg_desk_cli.specs.declared.job.Usage.{Usage}
use Rattle.reg_desk_cli.specs.declared.job.Usage.TheVariants.{Help, Version, Bad, Memory}

-- this command line is of the simple kind for which clap's contracts are exact
pub simple : is_simple desk_app ≡ true
unfolding clap_on_literals
simple = refl

pub simple_and_free : is_simple_and_free desk_app ≡ true
unfolding clap_on_literals
simple_and_free = refl

-- the usage that prints an error of clap is one for these words
pub prints_usage : (words : List Text) (kind : ErrorKind) (usage : Usage) → PrintsUsage kind usage
    → (kind ≡ OutOfMemory) ⊎ IsAmong kind (fault_of desk_app words) → IsUsageOf words usage
prints_usage words kind (Help text) help (inl none) = cc (sym help ∙ none)
prints_usage words kind (Help text) help (inr among) = subst (λ k. IsAmong k (fault_of desk_app words)) help among
prints_usage words kind (Version text) version (inl none) = cc (sym version ∙ none)
prints_usage words kind (Version text) version (inr among) = subst (λ k. IsAmong k (fault_of desk_app words)) version among
prints_usage words kind (Bad text) other (inl none) = absurd (other.2 none)
prints_usage words kind (Bad text) other (inr among) = inl (kind, other.0, other.1, among)
prints_usage words kind Memory none how = tt

-- a name and rows that are taken apart are those of the subcommand
both_mapped : {X : Type 0} (name : X → Text) (rows : X → List Row) (found : Option X) (pair : Option (Text × List Row))
    → option_map name found ≡ option_map (λ p. p.0) pair → option_map rows found ≡ option_map (λ p. p.1) pair
    → option_map (λ x. (name x, rows x)) found ≡ pair
both_mapped name rows None None named rowed = refl
both_mapped name rows None (Some p) named rowed = cc named
both_mapped name rows (Some x) None named rowed = cc named
both_mapped name rows (Some x) (Some p) named rowed =
    let is_name : name x ≡ p.0 = cc in
    let is_rows : rows x ≡ p.1 = cc in
    λ i. Some (is_name i, is_rows i)

fused : {X A B : Type 0} (f : X → A) (g : X → B) (o : Option X) → option_map f o ≡ option_map (λ (p : A × B). p.0) (option_map (λ x. (f x, g x)) o)
fused f g None = refl
fused f g (Some x) = refl

-- the name of the subcommand is that of its rows
by_name : (m : ArgMatches) → subcommand_name_of m ≡ option_map (λ p. p.0) (subcommand_rows_of m)
by_name m =
    fused (λ b. (out-SubCommand (box_value b)).name.now) (λ b. rows_of (found_of (out-SubCommand (box_value b)).matches)) (out-ArgMatches m).subcommand

-- `subcommand` returns the name and the rows that clap found after the command
pub behind : (found : Option (Bor Text × Bor ArgMatches)) (m : ArgMatches) → option_map (λ (p : Bor Text × Bor ArgMatches). p.0.now) found ≡ subcommand_name_of m
    → option_map (λ (p : Bor Text × Bor ArgMatches). rows_of (found_of p.1.now)) found ≡ option_map (λ (p : Text × List Row). p.1) (subcommand_rows_of m)
    → option_map (λ (p : Bor Text × Bor ArgMatches). (p.0.now, rows_of (found_of p.1.now))) found ≡ subcommand_rows_of m
behind found m name rows =
    both_mapped (λ (p : Bor Text × Bor ArgMatches). p.0.now) (λ (p : Bor Text × Bor ArgMatches). rows_of (found_of p.1.now))
    found (subcommand_rows_of m) (name ∙ by_name m) rows

-- clap's contracts, applied to the program's command line
pub accepted : (app : App) (words : List Text) → app ≡ desk_app → (is_simple_and_free app ≡ true → fault_of app words ≡ []) → ClapAccepts words
accepted app words is clean = subst (λ a. fault_of a words ≡ []) is (clean (ap is_simple_and_free is ∙ simple_and_free))

pub refused : (app : App) (words : List Text) (error : Error) → app ≡ desk_app → (is_simple_and_free app ≡ true → HasKind (fault_of app words) error)
    → HasKind (fault_of desk_app words) error
refused app words error is fails = subst (λ a. HasKind (fault_of a words) error) is (fails (ap is_simple_and_free is ∙ simple_and_free))

-- the rows that clap found before the command and after it
rows_before : (app : App) (words : List Text) (m : ArgMatches) → app ≡ desk_app → HasMatchesOf app words m
    → rows_of (found_of m) ≡ matches_of desk_app words
rows_before app words m is has = (has (ap is_simple is ∙ simple)).0 ∙ ap (λ a. matches_of a words) is

rows_behind : (app : App) (words : List Text) (m : ArgMatches) → app ≡ desk_app → HasMatchesOf app words m
    → subcommand_rows_of m ≡ subcommand_of desk_app words
rows_behind app words m is has = (has (ap is_simple is ∙ simple)).1 ∙ ap (λ a. subcommand_of a words) is

-- so the invocation is that of the words
pub invocations : (app : App) (words : List Text) (m : ArgMatches) (invocation : Invocation) → app ≡ desk_app → (is_simple_and_free app ≡ true → fault_of app words ≡ [])
    → HasMatchesOf app words m → IsInvocationIn (rows_of (found_of m)) (subcommand_rows_of m) invocation → IsInvocationOf words invocation
invocations app words m invocation is clean has read = (
  accepted app words is clean,
  subst (λ before. IsInvocationIn before (subcommand_of desk_app words) invocation) (rows_before app words m is has)
      (subst (λ found. IsInvocationIn (rows_of (found_of m)) found invocation) (rows_behind app words m is has) read),
)

pub no_invocation : (app : App) (words : List Text) (m : ArgMatches) (usage : Usage) → app ≡ desk_app → (is_simple_and_free app ≡ true → fault_of app words ≡ [])
    → HasMatchesOf app words m → IsNoInvocation (subcommand_rows_of m) usage → IsUsageOf words usage
no_invocation app words m (Help text) is clean has never = absurd never
no_invocation app words m (Version text) is clean has never = absurd never
no_invocation app words m (Bad text) is clean has none = inr (accepted app words is clean, sym (ap job_found (rows_behind app words m is has)) ∙ none)
no_invocation app words m Memory is clean has free = tt
