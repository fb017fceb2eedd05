use Rattle.reg_office.proofs.Following.{over_stored, run_since}
use Rattle.reg_office.proofs.laws.headline.Goals as goal

pub returns-clause-created : goal.returns-clause-created
returns-clause-created g c signer since = c.headline.ensures.created (record { signer = signer; since = since })

pub returns-clause-since : goal.returns-clause-since
returns-clause-since g c signer records after commands outcomes sound =
    let signs = g.S.Signer.signs in
    let identity = g.S.Signer.identity signer in
    run_since sound.since signs identity records after commands outcomes (over_stored signs identity records sound) sound.reached

pub returns-clause-sound : goal.returns-clause-sound
returns-clause-sound g c signer since = c.headline.ensures.sound (record { signer = signer; since = since })

pub returns-clause-parts : goal.returns-clause-parts
returns-clause-parts g c signer since = c.headline.ensures.parts (record { signer = signer; since = since })

pub returns-clause-exactly_one : goal.returns-clause-exactly_one
returns-clause-exactly_one g c signer since = c.headline.ensures.exactly_one (record { signer = signer; since = since })

pub returns-clause-counts : goal.returns-clause-counts
returns-clause-counts g c signer since = c.headline.ensures.counts (record { signer = signer; since = since })

pub returns-clause-lists : goal.returns-clause-lists
returns-clause-lists g c signer since = c.headline.ensures.lists (record { signer = signer; since = since })

pub returns-clause-history : goal.returns-clause-history
returns-clause-history g c signer since = c.history.ensures (record { signer = signer; since = since })

pub returns-clause-refused : goal.returns-clause-refused
returns-clause-refused g c signer since = c.headline.ensures.refused (record { signer = signer; since = since })
