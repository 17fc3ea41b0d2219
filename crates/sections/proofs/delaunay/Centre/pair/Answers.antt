use Rattle.std.proofs.Common.{◌≡◌, ℕ, List, sym, ap, ◌∙◌, subst}
use Rattle.laws.specs.Outlines.{Arc}
use Rattle.models.specs.declared.places.Place.{Place}
use Rattle.models.specs.Stars.{star, other}
use Rattle.models.proofs.Plane.{good}
use Rattle.sections.specs.Delaunay.{AllOf}
use Rattle.sections.proofs.Facing.{no_pair, pair_by}
use Rattle.sections.proofs.delaunay.Centre.pair.Goals as goal

-- an arc of the star that the code holds, as one of the star about the mark
moved : {ps qs : List Place} {c o : ℕ} → qs ≡ ps → o ≡ c → (i j : ℕ) → Arc (star qs o) (AllOf (star qs o)) i j → Arc (star ps c) (AllOf (star ps c)) i j
moved e f i j a = subst (λ x. x) (λ t. Arc (star (e t) (f t)) (AllOf (star (e t) (f t))) i j) a

-- mark i has no arc
pub returns-in_err-j : goal.returns-in_err-j
returns-in_err-j c =
    let s = c.args.self.now in
    let ps = s.points.places.now in
    rw c.from_residual.ensures
    (record { pair = no_pair ps s.mark (good ps s.points.good) s.starred c.args.i (λ j a. c.in_err-j.ensures.arc j (moved (sym s.tied.0) (sym s.tied.1) c.args.i j a)) })

pub returns : goal.returns
returns c =
    let s = c.args.self.now in
    let ps = s.points.places.now in
    let p = c.in_ok-p.ensures.meant.1 ∙ ap (λ x. other x c.args.i) s.tied.1 in
    let q = c.in_ok-q.ensures.meant.1 ∙ ap (λ x. other x c.in_ok-j.j) s.tied.1 in
    rw c.then_some.ensures
    (record { pair = pair_by ps s.mark (good ps s.points.good) s.starred c.args.i c.turns_left.result c.in_ok-j.j _ _ p q (moved s.tied.0 s.tied.1 c.args.i c.in_ok-j.j c.in_ok-j.ensures.arc) c.turns_left.ensures.left })
