-- The exchanges of a handler, by the relations of its trait.
use Rattle.std.specs.Prelude.{ℕ}
use Rattle.reg_desk_server.specs.Exchange.{Exchanged, Handles, HandlesOrWorks}
use Rattle.reg_desk_server.specs.declared.handler.Handler.{Ghosts}

-- the handler went from s to t by requests of HTTP clients and by lines of control connections, and the count grew by the number of requests
abbrev pub Handled : {H T L : Type 0} → Ghosts H T L → H → H → ℕ → ℕ → Type 0
Handled g = Exchanged (Handles g.answers g.answers_lines g.defers)

-- the same with lines only, so that the count stays the same
abbrev pub AnsweredLines : {H T L : Type 0} → Ghosts H T L → H → H → Type 0
AnsweredLines g s t = (answered : ℕ) → Handled g s t answered answered

-- the same as `Handled`, and the handler also did work of its own between requests and lines
abbrev pub HandledAndWorked : {H T L : Type 0} → Ghosts H T L → H → H → ℕ → ℕ → Type 0
HandledAndWorked g = Exchanged (HandlesOrWorks g.answers g.answers_lines g.defers g.works)
