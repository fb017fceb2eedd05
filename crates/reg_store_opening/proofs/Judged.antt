-- What is known of rows that were judged.
use Rattle.std.proofs.Common.{◌≡◌, Result, Ok, Err, IfOk, MatchResult, inl, inr}
use Rattle.reg_store_tables.specs.declared.fault.StoreFault.{StoreFault}
use Rattle.reg_store_tables.specs.declared.fault.StoreFault.TheVariants.{NotARegister}
use Rattle.reg_store_opening.specs.VersionAndOffice.{Refuses}

-- they are refused as others are
pub refused_as : {Reason Other : Type 0} (fault : StoreFault) → Refuses Reason fault → (Reason → Other) → Refuses Other fault
refused_as fault (inl memory) leads = inl memory
refused_as fault (inr refusal) leads = inr (refusal.0, leads refusal.1)

pub judged_as : {T : Type 0} {P Q : T → Type 0} {Reason Other : Type 0} (r : Result T StoreFault) → MatchResult r P (Refuses Reason) → ((x : T) → P x → Q x) → (Reason → Other) → MatchResult r Q (Refuses Other)
judged_as (Ok x) is leads refused = leads x is
judged_as (Err fault) is leads refused = refused_as fault is refused

pub judged_ok : {T : Type 0} {P : T → Type 0} (Reason : Type 0) (Q : T → Type 0) (r : Result T StoreFault) → MatchResult r P (Refuses Reason) → ((x : T) → P x → Q x) → IfOk r Q
judged_ok Reason Q (Ok x) is leads = leads x is
judged_ok Reason Q (Err fault) is leads = tt

pub judged_none : {T Reason : Type 0} (P : T → Type 0) (r : Result T StoreFault) → MatchResult r P (Refuses Reason) → r ≡ Err NotARegister → Reason
judged_none P (Ok x) is none = absurd (let bad : ⊥ = cc in bad)
judged_none P (Err fault) (inl memory) none = absurd (let bad : ⊥ = cc in bad)
judged_none P (Err fault) (inr refusal) none = refusal.1
