-- Arcs of a set of marks: what one more mark does to them, and which walks along them are the whole hull.
use Rattle.std.proofs.Common.{◌≡◌, ℕ, ◌<◌, ◌≢◌, ◌⊎◌, List, ◌∷◌, sym, refl, ◌∙◌, subst, inl, inr}
use mathlib.Core.Logic.{Ne-symm, ⊎_swap}
use Rattle.std.specs.List.{AllByRecursion}
use Rattle.laws.specs.Systems.{Meaning, Left, Lawful}
use Rattle.laws.specs.Outlines.{Marks, adding, Arc, Step, Hull, Around}
use Rattle.laws.proofs.Turns.{cyclic², opposite, transitive'}
use Rattle.laws.proofs.Walks.{Walk, end, on, other, first, step, leave, found, walk_map, walk_all, apart}

module _ {m : Meaning} (L : Lawful m) {s : ℕ → Type 0} where
  -- one arc at most leaves a mark, and one at most comes to it
  pub one_after : (p q q' : ℕ) → Arc m s p q → Arc m s p q' → q ≡ q'
  one_after p q q' a b =
      elim (other q q') [
        | inl e ↦ e
        | inr n ↦
            absurd (L.antisymmetric (a.left q' b.to (Ne-symm b.apart) (Ne-symm n)) (b.left q a.to (Ne-symm a.apart) n))
      ]

  pub one_before : (p p' q : ℕ) → Arc m s p q → Arc m s p' q → p ≡ p'
  one_before p p' q a b =
      elim (other p p') [
        | inl e ↦ e
        | inr n ↦
            absurd (L.antisymmetric
            (L.cyclic (a.left p' b.from (Ne-symm n) b.apart))
            (L.cyclic (b.left p a.from n a.apart)))
      ]

  -- an arc of s is an arc of s with x, if x is to its left
  pub kept : {p q x : ℕ} → Arc m s p q → Left m p q x → Arc m (adding s x) p q
  kept {p} {q} {x} a k = record { from = inl a.from; to = inl a.to; apart = a.apart; left = left }
    where
      left : (r : ℕ) → adding s x r → r ≢ p → r ≢ q → Left m p q r
      left r (inl h) n n' = a.left r h n n'
      left r (inr e) n n' = subst (Left m p q) (sym e) k

  -- from a hidden arc to one that x sees: x follows the mark between them
  pub arc_to : {u t v x : ℕ} → Arc m s u t → Left m u t x → Arc m s t v → Left m t x v → Arc m (adding s x) t x
  arc_to {u} {t} {v} {x} a k b j = record { from = inl b.from; to = inr refl; apart = j.three.p≢q; left = left }
    where
      left : (r : ℕ) → adding s x r → r ≢ t → r ≢ x → Left m t x r
      left r (inr e) n n' = absurd (n' e)
      left r (inl h) n n' =
          elim (other r v) [
            | inl e ↦ subst (Left m t x) (sym e) j
            | inr r≢v ↦
                elim (other r u) [
                  | inl e ↦ subst (Left m t x) (sym e) (L.cyclic k)
                  | inr r≢u ↦
                      let utr = a.left r h r≢u n in
                      let tvr = b.left r h n r≢v in
                      elim (other v u) [
                        | inl e ↦ absurd (opposite L utr (subst (λ y. Left m t y r) e tvr))
                        | inr v≢u ↦ transitive' L k (a.left v b.to v≢u (Ne-symm b.apart)) utr j tvr
                      ]
                ]
          ]

  -- from an arc that x sees to a hidden one: the mark between them follows x
  pub arc_from : {u t v x : ℕ} → Arc m s u t → Left m u x t → Arc m s t v → Left m t v x → Arc m (adding s x) x t
  arc_from {u} {t} {v} {x} a k b j = record { from = inr refl; to = inl b.from; apart = k.three.q≢r; left = left }
    where
      left : (r : ℕ) → adding s x r → r ≢ x → r ≢ t → Left m x t r
      left r (inr e) n n' = absurd (n e)
      left r (inl h) n n' =
          elim (other r v) [
            | inl e ↦ subst (Left m x t) (sym e) (cyclic² L j)
            | inr r≢v ↦
                elim (other r u) [
                  | inl e ↦ subst (Left m x t) (sym e) (L.cyclic k)
                  | inr r≢u ↦
                      let utr = a.left r h r≢u n' in
                      let tvr = b.left r h n' r≢v in
                      elim (other u v) [
                        | inl e ↦ absurd (opposite L (subst (λ y. Left m y t r) e utr) tvr)
                        | inr u≢v ↦
                            cyclic² L (L.transitive tvr (b.left u a.from a.apart u≢v) j (L.cyclic utr) (cyclic² L k))
                      ]
                ]
          ]

  -- a triangle of s around x: no arc leaves x
  pub stuck : {x a b c v : ℕ} → s a → s b → s c → Left m x a b → Left m x b c → Left m x c a → Arc m s x v → ⊥
  stuck {x} {a} {b} {c} {v} ha hb hc xab xbc xca d =
      elim (other a v) [
        | inl e ↦ at e hc xca
        | inr a≢v ↦
            elim (other b v) [
              | inl e ↦ at e ha xab
              | inr b≢v ↦
                  elim (other c v) [
                    | inl e ↦ at e hb xbc
                    | inr c≢v ↦
                        L.antisymmetric xca
                        (L.transitive
                        (d.left a ha (Ne-symm xab.three.p≢q) a≢v)
                        (d.left b hb (Ne-symm xbc.three.p≢q) b≢v)
                        (d.left c hc (Ne-symm xca.three.p≢q) c≢v)
                        xab
                        xbc)
                  ]
            ]
      ]
    where
      at : {e f : ℕ} → e ≡ v → s f → Left m x f e → ⊥
      at {e} {f} i hf k =
          L.antisymmetric k
          (subst (λ y. Left m x y f) (sym i)
          (d.left f hf (Ne-symm k.three.p≢q) (λ j. k.three.q≢r (j ∙ sym i))))

  module _ (marks : Marks m s) where
    pub turn : {h q x : ℕ} → s h → s q → x < m.count → q ≢ h → q ≢ x → x ≢ h → Left m h q x ⊎ Left m h x q
    turn {h} {q} hh hq hx n n' n'' =
        L.nondegenerate (record { p_in = marks h hh; q_in = marks q hq; r_in = hx; p≢q = Ne-symm n; q≢r = n'; r≢p = n'' })

    -- x does not see every arc of a hull
    pub not_all : {h x : ℕ} {l : List ℕ} → Walk (λ p q. Arc m s p q × Left m p x q) h l h → AllByRecursion (λ c. c ≢ h) l → ⊥
    not_all (end r) n = r.0.apart refl
    not_all {h} {x} (on r w) n =
        elim (leave decide n.1 r.1 w) [
          | inl (p, hxp, r') ↦ L.antisymmetric hxp (cyclic² L r'.1)
          | inr (p, q, hxp, hqx, r') ↦
              L.antisymmetric
              (L.interior (L.cyclic r'.1) hxp hqx)
              (cyclic² L (r'.0.left h r.0.from (Ne-symm hxp.three.r≢p) hqx.three.p≢q))
        ]
      where
        decide : (p q : ℕ) → Arc m s p q × Left m p x q → q ≢ h → Left m h x q ⊎ Left m h q x
        decide p q (a, k) n' =
            ⊎_swap (turn r.0.from a.to k.three.q_in n' (Ne-symm k.three.q≢r) (Ne-symm r.1.three.p≢q))

    -- x left of every arc of a hull: some triangle of the fan from h is around it
    pub fan : {h x : ℕ} {l : List ℕ} → Walk (λ p q. Arc m s p q × Left m p q x) h l h → AllByRecursion (λ c. c ≢ h) l
        → (p q : ℕ) × Arc m s p q × Around m h p q x
    fan (end r) n = absurd (r.0.apart refl)
    fan {h} {x} (on r w) n =
        elim (leave decide n.1 r.1 w) [
          | inl (p, hpx, r') ↦ absurd (opposite L hpx r'.1)
          | inr (p, q, hpx, hxq, r') ↦ (p, q, r'.0, record { hpx = hpx; pqx = r'.1; qhx = cyclic² L hxq })
        ]
      where
        decide : (p q : ℕ) → Arc m s p q × Left m p q x → q ≢ h → Left m h q x ⊎ Left m h x q
        decide p q (a, k) n' = turn r.0.from a.to k.three.r_in n' k.three.q≢r r.1.three.r≢p

    -- a closed walk along arcs, back at the first mark for the first time, is the whole hull
    pub whole : {h : ℕ} {l : List ℕ} → Walk (Arc m s) h l h → AllByRecursion (λ c. c ≢ h) l → Hull m s (h ∷ l)
    whole {h} {l} w n = record { apart = (n, apart one_after w n); arcs = λ p q. (step w p q, λ a. back p q a (found p w)) }
      where
        off : (p q : ℕ) → Arc m s p q → AllByRecursion (λ c. c ≢ p) (h ∷ l) → ⊥
        off p q a ns =
            let sees = walk_map (λ u v k. (k.0, k.0.left p a.from (Ne-symm k.1) (Ne-symm k.2))) (walk_all w ns ns.0) in
            let (u, v, b, f) = fan sees n in
            stuck (first w).from b.from b.to (cyclic² L f.hpx) (cyclic² L f.pqx) (cyclic² L f.qhx) a

        back : (p q : ℕ) → Arc m s p q → ((q' : ℕ) × Step h l h p q' × Arc m s p q') ⊎ AllByRecursion (λ c. c ≢ p) (h ∷ l) → Step h l h p q
        back p q a (inl (q', k, b)) = subst (Step h l h p) (one_after p q' q b a) k
        back p q a (inr ns) = absurd (off p q a ns)
