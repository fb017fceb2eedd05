use Rattle.reg_desk_metrics.specs.Followers.{state_text}
use Rattle.reg_desk_metrics.proofs.MetricsTexts.{parts_4}
use Rattle.reg_desk_metrics.proofs.follower_status.FollowerStatus.put_state.Goals as goal

pub returns : goal.returns
unfolding state_text
returns c =
    parts_4 _ _ _ _ _ _ _ _ _ c.in_ok-put_flag.ensures c.in_ok-put_flag-2.ensures c.in_ok-extend_from_slice.ensures.items
    c.in_ok-put_failure.ensures
