-- The law of followers, by its lemmas.
use Rattle.reg_office_api.proofs.FollowedLeaders.{calls_follow_leader, follows_leader}
use Rattle.reg_office_api.proofs.LeaderTexts.{reads_leaders_page}
use Rattle.reg_office_api.proofs.laws.followers.Goals as goal

pub returns-clause-one : goal.returns-clause-one
returns-clause-one c = follows_leader

pub returns-clause-calls : goal.returns-clause-calls
returns-clause-calls c = calls_follow_leader

pub returns-clause-read : goal.returns-clause-read
returns-clause-read c = reads_leaders_page
