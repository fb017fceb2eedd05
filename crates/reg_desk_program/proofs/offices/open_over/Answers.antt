use Rattle.std.proofs.Common.{inl, inr, sym}
use Rattle.reg_office.proofs.PublicLaws.{leaves_opened}
use Rattle.reg_store.proofs.PublicLaws.{opened_rests}
use Rattle.reg_desk_program.proofs.Holding.{holds, shown, shown_kept, survives, was_clean}
use Rattle.reg_desk_program.proofs.Migrated.{leaves_looked_up}
use Rattle.reg_desk_program.proofs.Opened.{embeds_as, lent_looked, lent_signs}
use Rattle.reg_desk_program.proofs.offices.open_over.Goals as goal

pub returns-in-Ok-signer_for-clause-opened : goal.returns-in-Ok-signer_for-clause-opened
returns-in-Ok-signer_for-clause-opened g c =
    let store = g.C.Store in
    let opened = c.in-Ok.ensures.opens in
    let answering = c.answering.ensures in
    let after = c.signer_for.new.tables in
    let looked = lent_looked c.deref_mut.ensures.shows c.signer_for.ensures.looked in
    let signs = lent_signs c.deref_mut.ensures.shows c.in-Ok-signer_for.ensures.signs in
    let clean = was_clean store c.args.connection c.in-Ok.store after c.answering.result.store answering.store in
    let shows = shown store c.args.connection c.in-Ok.store after c.answering.result.store answering.store in
    let kept = shown_kept store c.args.connection c.in-Ok.store after c.answering.result.store answering.store in
    let stays = holds store c.args.connection c.in-Ok.store after c.answering.result.store answering.store in
    let outlives = survives store c.args.connection c.in-Ok.store after c.answering.result.store answering.store
    _ opened.survives looked.survives in
    record {
      shows = λ records showed. stays records looked.survives.clean looked.same (kept records (opened.kept records) (λ version. opened.migrated version records) showed);
      clean = outlives.clean;
      is_signing = λ records showed is_clean.
          rw (sym answering.signer) at (signs.is_signing records (shows records (opened.kept records) (λ version. opened.migrated version records) showed) (clean is_clean));
      follows = λ records showed sound is_clean crl is other under.
          rw (sym answering.signer) at
          (signs.follows records (shows records (opened.kept records) (λ version. opened.migrated version records) showed) sound (clean is_clean) crl is other under);
      embeds = λ records showed is_clean. embeds_as _ records.issuer.key _ _ _ answering.responder
          (signs.embeds records (shows records (opened.kept records) (λ version. opened.migrated version records) showed) (clean is_clean));
      leaves = λ whole records showed. elim showed [
        | inl before ↦
            leaves_opened store c.args.connection c.answering.result.store records _
            (λ held trees is_open leaves. g.met.C.Store.settled held.store trees is_open leaves)
            whole outlives before (λ trees undoubted up shown_now. opened_rests store c.args.connection records trees undoubted up shown_now)
        | inr (version, older, sound) ↦
            leaves_looked_up store c.args.connection c.in-Ok.store after c.answering.result.store answering.store version records _
            (λ held trees is_open leaves. g.met.C.Store.settled held.store trees is_open leaves)
            whole opened.survives (λ trees made. made.1 version records older sound) older (opened.migrated version records older sound)
            (opened.live version records older) looked.survives
      ];
    }
