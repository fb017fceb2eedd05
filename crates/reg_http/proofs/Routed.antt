-- The router leads each path where the table says.
use Rattle.std.proofs.Common.{◌≡◌, ℕ, ◌≤◌, List, [], ◌∷◌, ◌++◌, length, drop, codes, Option, Some, None, is_some, option_and_then, Bool, true, false, cond, ◌&&◌, refl, sym, ap, ◌∙◌, subst, arith, ◌==◌, All}
use Rattle.std.specs.Prelude.{unwrap_or}
use Rattle.std.proofs.Math.Seq.{drop-length}
use Rattle.std.proofs.lemmas.Bool.{and_parts}
use Rattle.matchit.specs.Rows.{RowsOf}
use Rattle.matchit.specs.Router.{RouteOf, rename, map_key}
use Rattle.matchit.specs.Seek.{seek, first, has_slash}
use Rattle.matchit.proofs.RenameLemmas.{first-rename}
use Rattle.reg_http.specs.Routes.{RouteLine, Ending, here, one, rest, IsRoute, path_after, ended, left, mark, or_next, prefix_length, route_in, route, rows_for, table}
use Rattle.reg_http.specs.declared.route.Route.{Route}
use Rattle.reg_http.specs.declared.route.Route.TheVariants.{Ocsp, Other}
use Rattle.reg_http.proofs.SeekOne.{apart_all, all_bytes, is_byte, seek_one, seek_nothing}

-- prefixes are bytes, and no two rows catch one path
abbrev all_apart : List RouteLine → Bool
all_apart [] = true
all_apart (l ∷ ls) = all_bytes l.prefix && (apart_all (l.prefix ++ mark l.ending) (rows_for ls) && all_apart ls)

-- the router finds the route of the first line that takes the path
seek_route : (ls : List RouteLine) (path : List ℕ) → All is_byte path → all_apart ls ≡ true
    → unwrap_or (seek 0 (rows_for ls) path) Other ≡ (route_in ls path).0
seek_route [] path small parts = ap (λ (found : Option Route). unwrap_or found Other) (seek_nothing 0 path)
seek_route (l ∷ ls) path small parts =
    let (bytes, more) = and_parts (all_bytes l.prefix) (apart_all (l.prefix ++ mark l.ending) (rows_for ls) && all_apart ls) parts in
    let (parted, others) = and_parts (apart_all (l.prefix ++ mark l.ending) (rows_for ls)) (all_apart ls) more in
    ap (λ (found : Option Route). unwrap_or found Other) (seek_one l.prefix l.ending l.to (rows_for ls) path small bytes parted)
    ∙ by (left l.prefix l.ending path) (seek_route ls path small others)
  where
    by : (v : Option (List ℕ)) → unwrap_or (seek 0 (rows_for ls) path) Other ≡ (route_in ls path).0
        → unwrap_or (cond (is_some v) (Some l.to) (seek 0 (rows_for ls) path)) Other ≡ (or_next l.to v (route_in ls path)).0
    by (Some text) next = refl
    by None next = next

-- how many bytes of a path stand before what a line leaves open
abbrev size : Ending → List ℕ → List ℕ → ℕ
size here prefix path = length path
size _ prefix path = length prefix

abbrev AllSized : List ℕ → List RouteLine → Type 0
AllSized path [] = Unit {0}
AllSized path (l ∷ ls) = (size l.ending l.prefix path ≡ prefix_length l.to path) × AllSized path ls

-- what is left open of a path stands behind as many bytes
abbrev Behind : List ℕ → ℕ → List ℕ → Type 0
Behind path bytes over = (over ≡ drop bytes path) × (bytes ≤ length path)

-- what is after a prefix
after_is : (w path text : List ℕ) → path_after w path ≡ Some text → (text ≡ drop (length w) path) × (length w ≤ length path)
after_is [] path text e = (let same : path ≡ text = cc in sym same, omega arith)
after_is (x ∷ w) [] text e = absurd (cc)
after_is (x ∷ w) (b ∷ path) text e = by (x == b) e (after_is w path text)
  where
    by : (v : Bool) → cond v (path_after w path) None ≡ Some text → (path_after w path ≡ Some text → (text ≡ drop (length w) path) × (length w ≤ length path))
        → (text ≡ drop (length (x ∷ w)) (b ∷ path)) × (length (x ∷ w) ≤ length (b ∷ path))
    by true e next = let found = next e in (found.0, omega (arith, found.1))
    by false e next = absurd (cc)

-- an ending leaves all of what it takes open
ended_is : (e : Ending) (rest_of text : List ℕ) → ended e rest_of ≡ Some text → rest_of ≡ text
ended_is here [] text e = cc e
ended_is here (b ∷ more) text e = absurd (cc)
ended_is one [] text e = absurd (cc)
ended_is one (b ∷ more) text e = by (has_slash (b ∷ more)) e
  where
    by : (v : Bool) → cond v None (Some (b ∷ more)) ≡ Some text → (b ∷ more) ≡ text
    by true e = absurd (cc)
    by false e = cc
ended_is rest [] text e = absurd (cc)
ended_is rest (b ∷ more) text e = cc

left_is : (e : Ending) (w path over : List ℕ) → left w e path ≡ Some over → Behind path (size e w path) over
left_is e w path over found = by e (path_after w path) refl found
  where
    by : (e : Ending) (v : Option (List ℕ)) → path_after w path ≡ v → option_and_then (ended e) v ≡ Some over → Behind path (size e w path) over
    by e None same got = absurd (cc)
    by here (Some []) same got = (let none : [] ≡ over = cc in sym none ∙ sym (drop-length path), omega arith)
    by here (Some (b ∷ more)) same got = absurd (cc)
    by one (Some text) same got = after_is w path over (same ∙ ap (λ (t : List ℕ). Some t) (ended_is one text over got))
    by rest (Some text) same got = after_is w path over (same ∙ ap (λ (t : List ℕ). Some t) (ended_is rest text over got))

route_behind : (ls : List RouteLine) (path : List ℕ) → AllSized path ls → Behind path (prefix_length (route_in ls path).0 path) (route_in ls path).1
route_behind [] path sized = (sym (drop-length path), omega arith)
route_behind (l ∷ ls) path sized = by (left l.prefix l.ending path) refl (route_behind ls path sized.1)
  where
    by : (v : Option (List ℕ)) → left l.prefix l.ending path ≡ v → Behind path (prefix_length (route_in ls path).0 path) (route_in ls path).1
        → Behind path (prefix_length (or_next l.to v (route_in ls path)).0 path) (or_next l.to v (route_in ls path)).1
    by (Some over) e next =
        let P : ℕ → Type 0 = λ bytes. Behind path bytes over in
        subst P sized.0 (left_is l.ending l.prefix path over e)
    by None e next = next

is_route : (path : List ℕ) (which : Route) → which ≡ (route_in table path).0 → IsRoute path which
unfolding route
is_route path which same =
    let P : Route → Type 0 = λ it. IsRoute path it in
    let fits = route_behind table path (refl, (refl, (refl, (refl, (refl, (refl, (refl, tt))))))) in
    subst P (sym same) (record { route_is = ap (λ (over : List ℕ). ((route_in table path).0, over)) (sym fits.0); long = fits.1 })

-- what the router finds
pub finds_at : (router : RowsOf (RouteOf Route)) (path : List ℕ) (which : Route) → rename (λ e. e.value) router ≡ rows_for table → All is_byte path
    → which ≡ unwrap_or (map_key (λ e. e.value) (first router path)) Other → IsRoute path which
finds_at router path which same small is =
    is_route path which (
    is
    ∙ ap (λ (found : Option Route). unwrap_or found Other) (
    sym (first-rename (λ (e : RouteOf Route). e.value) router path) ∙ ap (λ (rs : RowsOf Route). first rs path) same)
    ∙ seek_route table path small refl
    )

-- the path that is found without a router
pub ocsp_at : (path : List ℕ) → path ≡ codes "/ocsp" → IsRoute path Ocsp
ocsp_at path same = is_route path Ocsp (ap (λ (p : List ℕ). (route_in table p).0) (sym same))
