-- Look-ups by one statement, and look-ups one after another.
use Rattle.std.specs.Option.{ok_or, IfSome}
use Rattle.std.specs.Prelude.{IfErr, IsErr, IsErrAnd, IsSome, OnOk}
use Rattle.std.proofs.Common.{◌≡◌, ◌≤◌, ◌<◌, ◌^◌, inl, ℕ, List, Option, None, Some, Result, Ok, Err, IfOk, IsTrue, refl, sym, subst, ◌∙◌, arith}
use Rattle.sqlite_value.specs.Order.{Row}
use Rattle.sqlite_trees.specs.View.{doubt}
use Rattle.sqlite_trees.specs.declared.store.Store.{Ghosts}
use Rattle.sqlite.specs.Held.{Held, state}
use Rattle.sqlite.specs.State.{State, HasCleanDisk}
use Rattle.reg_core.specs.Records.{Records}
use Rattle.reg_store_tables.specs.Failing.{HasFailed, FailsOnlyByLimit, ShowsWritten}
use Rattle.reg_store_tables.specs.LookUps.{Finds, FindsIf, Queries, ReadsBy, ReadsOne, ReadsRow}
use Rattle.reg_store_tables.specs.ReadStatements.{Answers}
use Rattle.reg_store_tables.specs.Shows.{IsShownBy, ShowsUntil}
use Rattle.reg_store_tables.specs.Stays.{Looked}
use Rattle.reg_store_tables.specs.Tables.{rows_of}
use Rattle.reg_store_tables.specs.declared.fault.DatabaseFault.{DatabaseFault}
use Rattle.reg_store_tables.specs.declared.fault.DatabaseFault.TheVariants.{Store}
use Rattle.reg_store_tables.specs.declared.sizes.Table.{Table}
use Rattle.reg_store_tables.proofs.FailingLemmas.{failed_then, looked_written, made_of, the_row, written_register, written_shows}
use Rattle.reg_store_tables.proofs.Staying.{looked_then, ok_both, ok_if, ok_then, shown_first, shown_second, shows_until, some_then, until_schema}

pub was_clean : (old new : State) → doubt old.is_clean ≤ doubt new.is_clean → HasCleanDisk new → HasCleanDisk old
was_clean old new forgets clean = omega arith

later_failure : {C T : Type 0} {g : Ghosts C} {a b c : Held C} (result : Result T DatabaseFault) → Looked g a b → Looked g b c → HasCleanDisk (state g c)
    → IfErr result (λ fault. fault ≡ Store → HasFailed (state g b) (state g c)) → IfErr result (λ fault. fault ≡ Store → HasFailed (state g a) (state g c))
later_failure (Ok x) first second clean is_err = tt
later_failure (Err fault) first second clean is_err = λ store. failed_then first second clean (is_err store)

no_failure : {T : Type 0} (H : Type 0) (result : Result T DatabaseFault) → IfErr result (λ fault. fault ≡ Store → ⊥) → IfErr result (λ fault. fault ≡ Store → H)
no_failure H (Ok x) is_err = tt
no_failure H (Err fault) is_err = λ store. absurd (is_err store)

-- ---- by one statement

-- the parameters are these
pub asked_with : {C T W : Type 0} {g : Ghosts C} {old new : Held C} {text : List ℕ} {given params : Row} {result : Result T DatabaseFault} {view : T → W} {Shown ShownWell : State → List ℕ → Row → W → Type 0}
    → ReadsBy g old new text given result view Shown ShownWell → given ≡ params → ReadsBy g old new text params result view Shown ShownWell
asked_with {g = g} {old = old} {new = new} {text = text} {result = result} {view = view} {Shown = Shown} {ShownWell = ShownWell} reads is =
    subst (λ (p : Row). ReadsBy g old new text p result view Shown ShownWell) is reads

module _ {C T W : Type 0} {g : Ghosts C} {old new : Held C} {text : List ℕ} {given params : Row} {result : Result T DatabaseFault} {view : T → W} {Shown ShownWell : State → List ℕ → Row → W → Type 0}
    (reads : ReadsBy g old new text given result view Shown ShownWell) (is : given ≡ params) (asked : FailsOnlyByLimit text params) (wanted : Records → W)
    (well : (records : Records) → ShowsWritten g old records → HasCleanDisk (state g old) → ShownWell (state g old) text params (wanted records)) where
  it : ReadsBy g old new text params result view Shown ShownWell
  it = asked_with reads is

  old_clean : HasCleanDisk (state g new) → HasCleanDisk (state g old)
  old_clean = was_clean (state g old) (state g new) reads.looked.survives.clean

  -- where what is wanted stands in the tables under a condition
  pub by_statement_if : {May : Records → Type 0} (Given : Records → Type 0)
      → ((records : Records) → ShowsUntil g old new records → Given records → HasCleanDisk (state g old) → Shown (state g old) text params (wanted records))
      → FindsIf May g old new result (λ records found. Given records → view found ≡ wanted records)
  by_statement_if Given shown = record {
    looked = reads.looked;
    found = λ records shows clean. ok_if (Given records) _ result (λ holds. it.found (wanted records) (until_schema g old new records shows) clean (shown records shows holds (old_clean clean)));
    fails = λ records may written clean. it.fails (wanted records) asked (written_register g old records written).now (well records written (old_clean clean)) clean;
  }

  -- and without one
  pub by_statement : {May : Records → Type 0} → ((records : Records) → ShowsUntil g old new records → HasCleanDisk (state g old) → Shown (state g old) text params (wanted records))
      → FindsIf May g old new result (λ records found. view found ≡ wanted records)
  by_statement shown = record {
    looked = reads.looked;
    found = λ records shows clean. it.found (wanted records) (until_schema g old new records shows) clean (shown records shows (old_clean clean));
    fails = λ records may written clean. it.fails (wanted records) asked (written_register g old records written).now (well records written (old_clean clean)) clean;
  }

-- what is made of the rows of a query's answer
pub by_rows : {C T U : Type 0} {g : Ghosts C} {old new : Held C} {text : List ℕ} {given params : Row} {rows : T} {view : T → List Row} {May : Records → Type 0} {IsSo : Records → U → Type 0}
    → Queries g old new text given (Ok rows) view → given ≡ params → (result : Result U DatabaseFault)
    → ((records : Records) → ShowsUntil g old new records → HasCleanDisk (state g old) → Answers (state g old) text params (view rows) → IfOk result (IsSo records))
    → ((records : Records) → May records → ShowsWritten g old records → HasCleanDisk (state g old) → Answers (state g old) text params (view rows) → IfErr result (λ fault. fault ≡ Store → ⊥))
    → FindsIf May g old new result IsSo
by_rows {g = g} {old = old} {new = new} {text = text} {rows = rows} {view = view} asked is result so not_store = record {
  looked = asked.looked;
  found = λ records shows clean.
      so records shows (was_clean (state g old) (state g new) asked.looked.survives.clean clean)
      (subst (λ (p : Row). Answers (state g old) text p (view rows)) is (asked.rows (until_schema g old new records shows) clean));
  fails = λ records may written clean.
      no_failure _ result
      (not_store records may written (was_clean (state g old) (state g new) asked.looked.survives.clean clean)
      (subst (λ (p : Row). Answers (state g old) text p (view rows)) is (asked.rows (written_register g old records written).now clean)));
}

-- ---- where nothing is asked

-- nothing changes
pub looked_none : {C : Type 0} {g : Ghosts C} {a : Held C} → Looked g a a
looked_none = record {
  same = λ register. record { was_open = λ clean up. up; now = λ clean up. inl refl; committed = λ clean up. refl };
  within = λ schema clean up under. record { was_open = up; now = refl; committed = refl };
  live = λ clean under up. up;
  survives = record { clean = omega arith; shield = λ shielded. shielded; counts = omega arith; limit = refl; closes = λ clean up. inl up; crash = λ clean trees may. inl may };
  idle = λ idle. idle;
}

-- an error gives nothing
pub gives_none : {T E : Type 0} (P : T → Type 0) (outcome : Result T E) → IsErr outcome → IfOk outcome P
gives_none P (Ok x) is_err = absurd (let bad : ⊥ = cc in bad)
gives_none P (Err e) is_err = tt

pub on_err : {T E : Type 0} (P : Type 0) (outcome : Result T E) → IsErr outcome → OnOk outcome P
on_err P (Ok x) is_err = absurd (let bad : ⊥ = cc in bad)
on_err P (Err e) is_err = tt

-- what a result gives for each of a kind
pub ok_for : {T E K : Type 0} {H : K → Type 0} (Q : K → T → Type 0) (r : Result T E) → ((k : K) → H k → IfOk r (Q k)) → IfOk r (λ x. (k : K) → H k → Q k x)
ok_for Q (Ok x) each = each
ok_for Q (Err e) each = tt

-- what holds anyway holds where a result is had
pub on_ok : {T E P : Type 0} (r : Result T E) → P → OnOk r P
on_ok (Ok x) holds = holds
on_ok (Err e) holds = tt

-- a fault that is passed on
same_failure : {T : Type 0} {H : Type 0} (result : Result T DatabaseFault) (fault : DatabaseFault) → IsErrAnd result (λ error. error ≡ fault) → (fault ≡ Store → H) → IfErr result (λ error. error ≡ Store → H)
same_failure (Ok x) fault is_err failed = tt
same_failure (Err same) fault is_err failed = λ store. failed (sym is_err ∙ store)

pub not_store : {T : Type 0} (fault : DatabaseFault) (result : Result T DatabaseFault) → IsErrAnd result (λ error. error ≡ fault) → (fault ≡ Store → ⊥) → IfErr result (λ error. error ≡ Store → ⊥)
not_store fault result is_err never = same_failure result fault is_err never

no_result : {T : Type 0} (P : T → Type 0) (result : Result T DatabaseFault) (fault : DatabaseFault) → IsErrAnd result (λ error. error ≡ fault) → IfOk result P
no_result P (Ok x) fault is_err = absurd is_err
no_result P (Err same) fault is_err = tt

none_live : {T : Type 0} (P : Type 0) (result : Result T DatabaseFault) (fault : DatabaseFault) → IsErrAnd result (λ error. error ≡ fault) → OnOk result P
none_live P (Ok x) fault is_err = absurd is_err
none_live P (Err same) fault is_err = tt

module _ {C T U : Type 0} {g : Ghosts C} {a b : Held C} (fault : DatabaseFault) (result : Result T DatabaseFault) (is_err : IsErrAnd result (λ error. error ≡ fault)) where
  -- a look-up that fails is told so, whatever was wanted of it
  pub passed_on : {May Might : Records → Type 0} {IsSo : Records → T → Type 0} {WasSo : Records → U → Type 0} → ((records : Records) → ShowsWritten g a records → May records → Might records)
      → FindsIf Might g a b (Err fault) WasSo → FindsIf May g a b result IsSo
  passed_on might finds = record {
    looked = finds.looked;
    found = λ records shows clean. no_result _ result fault is_err;
    fails = λ records may written clean. same_failure result fault is_err (finds.fails records (might records written may) written clean);
  }

  -- and so is a statement
  pub unread : {text : List ℕ} {params : Row} {W : Type 0} {rows : U → List Row} {view : T → W} {Shown ShownWell : State → List ℕ → Row → W → Type 0}
      → Queries g a b text params (Err fault) rows → ReadsBy g a b text params result view Shown ShownWell
  unread asked = record {
    looked = asked.looked;
    live = λ register clean. none_live _ result fault is_err;
    found = λ wanted register clean shows. no_result _ result fault is_err;
    fails = λ wanted may register shows clean. same_failure result fault is_err (asked.fails may register clean);
  }

-- and a query
pub unasked : {C T U : Type 0} {g : Ghosts C} {a b : Held C} {text : List ℕ} {given params : Row} {rows : U → List Row} {May : Records → Type 0} {IsSo : Records → T → Type 0} (fault : DatabaseFault) (result : Result T DatabaseFault) → IsErrAnd result (λ error. error ≡ fault)
    → Queries g a b text given (Err fault) rows → given ≡ params → FailsOnlyByLimit text params → FindsIf May g a b result IsSo
unasked {g = g} {a = a} {text = text} fault result is_err asked is may_ask = record {
  looked = asked.looked;
  found = λ records shows clean. no_result _ result fault is_err;
  fails = λ records may written clean. same_failure result fault is_err (asked.fails (subst (λ (p : Row). FailsOnlyByLimit text p) (sym is) may_ask) (written_register g a records written).now clean);
}

-- and one that is to show a row, where it shows one at most
pub unread_row : {C R : Type 0} {g : Ghosts C} {a b : Held C} {text : List ℕ} {params : Row} {P W : R → Type 0} {view : R → Row} (fault : DatabaseFault) (result : Result R DatabaseFault) → IsErrAnd result (λ error. error ≡ fault)
    → ReadsRow P W view g a b text params (Err fault) → ReadsOne P W view g a b text params result
unread_row {P = P} {W = W} {view = view} fault result is_err asked = record {
  looked = asked.looked;
  live = λ register clean. none_live _ result fault is_err;
  found = λ wanted register clean shows. no_result _ result fault is_err;
  fails = λ wanted may register shows clean.
      same_failure result fault is_err (asked.fails (Some wanted) may register (λ rows answers. let it = shows rows answers in the_row (λ r. P r × W r) view wanted rows it.0 it.1) clean);
}

-- nothing may be asked
pub not_asked : {C T : Type 0} {g : Ghosts C} {a : Held C} {May : Records → Type 0} {IsSo : Records → T → Type 0} (result : Result T DatabaseFault) → IsErr result
    → ((records : Records) → May records → ⊥) → FindsIf May g a a result IsSo
not_asked result is_err never = record {
  looked = looked_none;
  found = λ records shows clean. gives_none _ result is_err;
  fails = λ records may written clean. absurd (never records may);
}

-- what is found is so in other words
pub finds_so : {C T : Type 0} {g : Ghosts C} {a b : Held C} {result : Result T DatabaseFault} {May Might : Records → Type 0} {WasSo IsSo : Records → T → Type 0} → FindsIf Might g a b result WasSo → ((records : Records) → May records → Might records)
    → ((records : Records) → ShowsUntil g a b records → HasCleanDisk (state g a) → (found : T) → WasSo records found → IsSo records found) → FindsIf May g a b result IsSo
finds_so {g = g} {a = a} {b = b} {result = result} finds might so = record {
  looked = finds.looked;
  found = λ records shows clean. ok_then result (finds.found records shows clean) (so records shows (was_clean (state g a) (state g b) finds.looked.survives.clean clean));
  fails = λ records may. finds.fails records (might records may);
}

-- nothing stands at a number that SQL doesn't have
pub past_rows : {C T : Type 0} {g : Ghosts C} {a b : Held C} {result : Result (Option T) DatabaseFault} (table : Table) {n : ℕ} {May : Records → Type 0} → 2 ^ 63 ≤ n
    → FindsIf (λ _. 2 ^ 63 ≤ n) g a b result (λ records found. (found ≡ None) × IsTrue (state g a).is_open × (rows_of records table < n))
    → (wanted : Records → Option T) → ((records : Records) → IsShownBy (state g a).now records → rows_of records table < n → None ≡ wanted records)
    → FindsIf May g a b result (λ records found. found ≡ wanted records)
past_rows table many finds wanted none = finds_so finds (λ records may. many) (λ records shows clean found it. it.0 ∙ none records (shows.tables clean it.1) it.2)

-- and the connection was open
pub with_open : {C T W : Type 0} {g : Ghosts C} {a b : Held C} {text : List ℕ} {params : Row} {result : Result T DatabaseFault} {view : T → W} {Shown ShownWell : State → List ℕ → Row → W → Type 0} {May : Records → Type 0} {IsSo : Records → T → Type 0}
    → ReadsBy g a b text params result view Shown ShownWell → FindsIf May g a b result IsSo → FindsIf May g a b result (λ records found. IsTrue (state g a).is_open × IsSo records found)
with_open {g = g} {a = a} {b = b} {result = result} reads finds = record {
  looked = finds.looked;
  found = λ records shows clean. ok_both _ _ result (reads.live (until_schema g a b records shows) clean) (finds.found records shows clean);
  fails = finds.fails;
}

-- and something else comes of it
pub finds_ok : {C T U : Type 0} {g : Ghosts C} {a b : Held C} {x : T} {y : U} {May Might : Records → Type 0} {WasSo : Records → T → Type 0} {IsSo : Records → U → Type 0} → FindsIf Might g a b (Ok x) WasSo
    → ((records : Records) → ShowsUntil g a b records → WasSo records x → IsSo records y) → FindsIf May g a b (Ok y) IsSo
finds_ok finds so = record {
  looked = finds.looked;
  found = λ records shows clean. so records shows (finds.found records shows clean);
  fails = λ records may written clean. tt;
}

-- ---- one look-up after another

pub finds_then : {C T U : Type 0} {g : Ghosts C} {a b c : Held C} {x : T} {result : Result U DatabaseFault} {May First Second : Records → Type 0} {WasSo : Records → T → Type 0} {NextSo IsSo : Records → U → Type 0}
    → FindsIf First g a b (Ok x) WasSo → FindsIf Second g b c result NextSo → ((records : Records) → ShowsWritten g a records → WasSo records x → May records → Second records)
    → ((records : Records) → ShowsUntil g a c records → HasCleanDisk (state g b) → WasSo records x → (found : U) → NextSo records found → IsSo records found) → FindsIf May g a c result IsSo
finds_then {g = g} {a = a} {b = b} {c = c} {result = result} first second may so = record {
  looked = looked_then first.looked second.looked;
  found = λ records shows clean.
      let mid_clean = was_clean (state g b) (state g c) second.looked.survives.clean clean in
      ok_then result (second.found records (shown_second first.looked second.looked records shows) clean) (so records shows mid_clean (first.found records (shown_first first.looked second.looked records shows) mid_clean));
  fails = λ records asked written clean.
      let mid_clean = was_clean (state g b) (state g c) second.looked.survives.clean clean in
      let was = first.found records (shows_until b (written_shows g a records written)) mid_clean in
      later_failure result first.looked second.looked clean (second.fails records (may records written was asked) (looked_written first.looked records written) clean);
}

-- which both find something
pub finds_next : {C T U V : Type 0} {g : Ghosts C} {a b c : Held C} {x : T} {y : U} {z : V} {May First Second : Records → Type 0} {WasSo : Records → T → Type 0} {NextSo : Records → U → Type 0} {IsSo : Records → V → Type 0}
    → FindsIf First g a b (Ok x) WasSo → FindsIf Second g b c (Ok y) NextSo → ((records : Records) → ShowsUntil g a c records → WasSo records x → NextSo records y → IsSo records z) → FindsIf May g a c (Ok z) IsSo
finds_next {g = g} {b = b} {c = c} first second so = record {
  looked = looked_then first.looked second.looked;
  found = λ records shows clean.
      so records shows (first.found records (shown_first first.looked second.looked records shows) (was_clean (state g b) (state g c) second.looked.survives.clean clean)) (second.found records (shown_second first.looked second.looked records shows) clean);
  fails = λ records may written clean. tt;
}

pub finds_pair : {C T U : Type 0} {g : Ghosts C} {a b c : Held C} {x : T} {y : U} {First Second : Records → Type 0} {WasSo : Records → T → Type 0} {NextSo : Records → U → Type 0}
    → FindsIf First g a b (Ok x) WasSo → FindsIf Second g b c (Ok y) NextSo → Finds {T = T × U} g a c (Ok (x, y)) (λ records both. WasSo records both.0 × NextSo records both.1)
finds_pair first second = finds_next first second (λ records shows was so. (was, so))

-- what was found can't be so
pub unfound : {C T U : Type 0} {g : Ghosts C} {a b : Held C} {x : T} {May Might : Records → Type 0} {WasSo : Records → T → Type 0} {IsSo : Records → U → Type 0} (result : Result U DatabaseFault) → IsErr result → FindsIf Might g a b (Ok x) WasSo
    → ((records : Records) → May records → ShowsWritten g a records → WasSo records x → ⊥) → FindsIf May g a b result IsSo
unfound {g = g} {a = a} {b = b} result is_err finds never = record {
  looked = finds.looked;
  found = λ records shows clean. gives_none _ result is_err;
  fails = λ records may written clean. absurd (never records may written (finds.found records (shows_until b (written_shows g a records written)) clean));
}

-- and what is found after it holds beside it
pub finds_both : {C T U : Type 0} {g : Ghosts C} {a b c : Held C} {x : T} {result : Result U DatabaseFault} {May : Records → Type 0} {WasSo : Records → T → Type 0} {NextSo : Records → U → Type 0}
    → FindsIf May g a b (Ok x) WasSo → FindsIf May g b c result NextSo → FindsIf May g a c result (λ records found. WasSo records x × NextSo records found)
finds_both first second = finds_then first second (λ records written was may. may) (λ records shows clean was found so. (was, so))

-- a value that is made of what was found
pub finds_made : {C T U : Type 0} {g : Ghosts C} {a b : Held C} {x : T} {May : Records → Type 0} {WasSo : Records → T → Type 0} {IsSo : Records → U → Type 0} {P : U → Type 0}
    → FindsIf May g a b (Ok x) WasSo → (result : Result U DatabaseFault) (made : Option U) (fault : DatabaseFault) → result ≡ ok_or made fault → IfSome made P
    → ((records : Records) → WasSo records x → (it : U) → P it → IsSo records it) → ((records : Records) → ShowsWritten g a records → WasSo records x → IsSome made) → FindsIf May g a b result IsSo
finds_made {g = g} {a = a} {b = b} finds result made fault is has so some = record {
  looked = finds.looked;
  found = λ records shows clean. some_then result made fault is has (so records (finds.found records shows clean));
  fails = λ records may written clean. made_of _ result made fault is (some records written (finds.found records (shows_until b (written_shows g a records written)) clean));
}
