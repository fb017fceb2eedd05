-- A text that is a SELECT, whatever the tables are.
use Rattle.std.proofs.Common.{◌≡◌, inl, inr, ℕ, List, [], None, Result, Ok, Err, sym, ap}
use Rattle.std.proofs.lemmas.Bool.{cases_Bool}
use Rattle.sqlite_ast.specs.declared.Select as written_select
use Rattle.sqlite_ast.specs.declared.Statement.TheVariants as written
use Rattle.sqlite_syntax.specs.declared.statement.Parsed.{Parsed}
use Rattle.sqlite_schema.specs.declared.command.Command.{Command}
use Rattle.sqlite_schema.specs.declared.schema.Schema.{Schema}
use Rattle.sqlite_resolve.specs.declared.compiled.Compiled.{Compiled}
use Rattle.sqlite_resolve.specs.declared.error.CompileError.{CompileError}
use Rattle.sqlite_resolve.specs.Lowering.{Checked, and_then}
use Rattle.sqlite_resolve.specs.Compile as compile
use Rattle.sqlite.specs.Listing.{understood, reads_listing, listing_schema, if_select, is_select}
use Rattle.reg_store_tables.specs.ReadStatements.{NeverReturns}

planned_by : (p : Parsed) (k : Checked Command) (c : Compiled) → and_then (and_then (and_then k (λ c. Ok (c, None))) (λ found. Ok ([], found))) (λ plan. Ok (compile.with_command p plan)) ≡ Ok c
    → (c.returning ≡ None) × (c.formats ≡ []) × (c.names ≡ p.names) × (c.tail ≡ p.tail)
planned_by p (Ok k) c made = let same : compile.with_command p ([], (k, None)) ≡ c = cc in (
  ap (λ (x : Compiled). x.returning) (sym same),
  ap (λ (x : Compiled). x.formats) (sym same),
  ap (λ (x : Compiled). x.names) (sym same),
  ap (λ (x : Compiled). x.tail) (sym same),
)
planned_by p (Err e) c made = absurd (cc)

-- a SELECT as it is compiled returns nothing of a write, and names what was parsed
pub select_planned : (schema : Schema) (p : Parsed) (s : written_select.Select) (c : Compiled) → p.statement ≡ written.Select s → p.formats ≡ [] → and_then (compile.planned schema p) (λ plan. Ok (compile.with_command p plan)) ≡ Ok c
    → (c.returning ≡ None) × (c.formats ≡ []) × (c.names ≡ p.names) × (c.tail ≡ p.tail)
unfolding compile.planned compile.meaning compile.returning compile.timed
select_planned schema p s c is none made = planned_by p _ c (rw (is, none) at made)

pub selected : (r : Result Compiled CompileError) (c : Compiled) → if_select r ≡ Ok c → r ≡ Ok c
selected (Ok k) c is = elim (cases_Bool (is_select k.command)) [
  | inl selects ↦ rw selects at is
  | inr no_select ↦ absurd (let e = rw no_select at is in cc)
]
selected (Err e) c is = absurd (cc)

-- a SELECT returns nothing of a write
pub select_never : (text : List ℕ) (p : Parsed) (s : written_select.Select) → compile.first text ≡ Ok p → p.statement ≡ written.Select s → p.formats ≡ [] → NeverReturns text
unfolding understood compile.compiled
select_never text p s first is none = record {
  none = λ schema c known.
      let by : (sch : Schema) → compile.compiled sch text ≡ Ok c → c.returning ≡ None = λ sch made. (select_planned sch p s c is none (rw first at made)).0 in
      elim (cases_Bool (reads_listing schema text)) [
        | inl listing ↦ by listing_schema (selected (compile.compiled listing_schema text) c (rw listing at known))
        | inr direct ↦ by schema (rw direct at known)
      ];
}
