-- Which calls decline requests.
use Rattle.std.specs.Prelude.{ℕ, Bool, true, false, List, not, length, ◌==◌}
use Rattle.std.specs.List.{list_any}
use Rattle.reg_core.specs.declared.command.Command.{Command}
use Rattle.reg_core.specs.declared.command.Command.TheVariants.{Subscriber, Order, Register, Request, Decline, Revoke, Crl as IssueCrl}
use Rattle.reg_core_lists.specs.declared.feed_reader.ReceivedPage.{ReceivedPage}

abbrev pub is_decline : Command → Bool
is_decline (Decline id) = true
is_decline (Subscriber name) = false
is_decline (Order subscriber days) = false
is_decline (Register order serial not_before not_after) = false
is_decline (Request serial word) = false
is_decline (Revoke id) = false
is_decline IssueCrl = false

-- a command declines a request
abbrev pub has_decline : List (ℕ × Command) → Bool
has_decline commands = list_any (λ timed. is_decline timed.1) commands

-- a page has the id of a declined request
abbrev pub has_declined_rows : List ReceivedPage → Bool
has_declined_rows pages = list_any (λ page. not (length page.rows.declined.items == 0)) pages
