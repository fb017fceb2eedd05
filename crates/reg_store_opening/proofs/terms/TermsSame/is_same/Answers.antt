use Rattle.std.proofs.Common.{◌≡◌, sym, ◌∙◌}
use Rattle.sqlite_schema.specs.Code.{terms_in}
use Rattle.reg_store_opening.proofs.terms.TermsSame.is_same.Goals as goal

pub returns : goal.returns
returns c =
    let lefts : terms_in c.as_slice.result.now c.as_slice-2.result.now ≡ terms_in c.self.inside.nodes c.self.inside.roots =
    λ i. terms_in (c.as_slice.ensures i) (c.as_slice-2.ensures i) in
    let rights : terms_in c.as_slice-3.result.now c.as_slice-4.result.now ≡ terms_in c.other.inside.nodes c.other.inside.roots =
    λ i. terms_in (c.as_slice-3.ensures i) (c.as_slice-4.ensures i) in
    let left : terms_in c.as_slice.result.now c.as_slice-2.result.now ≡ c.args.self.now = lefts ∙ c.self.view_is in
    let right : terms_in c.as_slice-3.result.now c.as_slice-4.result.now ≡ c.args.other.now = rights ∙ c.other.view_is in
    (λ is. sym left ∙ c.are_same.ensures.0 is ∙ right, λ is. c.are_same.ensures.1 (left ∙ is ∙ sym right))
