-- What each step does to the count of the stop and to its thread's notes of it (definitions/specs/Count.antt): `kept`.
-- It rests on the places alone: no fact of the memory is needed.
use mathlib.Core.Path.{◌≡◌, refl, sym, ◌∙◌, ap, subst}
use mathlib.Core.Logic.{◌≢◌}
use mathlib.Core.Bool.{Bool, true, false, not, ◌&&◌, true≢false}
use Prim.Native.Nat.{ℕ, suc, ◌<◌, ◌≤◌}
use native.Mathlib.Omega.{arith}
use lib.Dec.{eqb, ltb}
use borrow.Author.Tests.{ne_eqb, lt-ltb, le-ltb, ltb-true, ltb-false, eqb-true, eqb-false}
use Rattle.container.specs.Choice.{ite}
use Rattle.definitions.specs.declared.Action.{Action}
use Rattle.definitions.specs.declared.Action.TheVariants.{Lookup, Insert, Remove, Split, Join, Query}
use Rattle.definitions.specs.declared.Effect.{Effect}
use Rattle.definitions.specs.declared.Effect.TheVariants.{Quiet, Raise, Lower}
use Rattle.definitions.specs.Threads.{Thread, Turn, Moves, Finishes, Finds, Full, NoStore}
use Rattle.definitions.specs.Nodes.{child_for}
use Rattle.definitions.specs.Bench.{stop, Store, sight_of}
use Rattle.definitions.specs.Places.{Place, p1, p2, p3, p4, p5, place_of, reading, at}
use Rattle.definitions.specs.Effects.{perform}
use Rattle.definitions.specs.Steps.{at_leaf, reached, onward, one_more, followed, released, step}
use Rattle.definitions.specs.Count.{crossed}
use Rattle.answers.proofs.Tools.{◌==?◌, on, off, test}
use Rattle.answers.proofs.PlaceNumbers.{number_of}
use Rattle.answers.proofs.CountAside.{Noted, counted, Elsewhere, apart, aside_noted, aside_not, silent_stop, Aside, aside_op}

-- one route more is at most 8 where there were at most 7, and over 8 where there were more
pub few_read : (k : ℕ) → one_more k ≤ 8 → k ≤ 7
unfolding ite
few_read k = go (ltb k 9) refl
  where
    go : (c : Bool) → ltb k 9 ≡ c → ite c (suc k) 9 ≤ 8 → k ≤ 7
    go true e l = omega (arith, l)
    go false e l = absurd (omega (arith, l))

pub many_read : (k : ℕ) → 8 < one_more k → 7 < k
unfolding ite
many_read k = go (ltb k 9) refl
  where
    go : (c : Bool) → ltb k 9 ≡ c → 8 < ite c (suc k) 9 → 7 < k
    go true e l = omega (arith, l)
    go false e l = omega (arith, ltb-false k 9 e)

module _ (s : Store) (th : Thread) where
  module _ (sw i : Bool) (e-on : s.stop.on ≡ sw) (k : Noted sw i th) where
    -- what is shown of a step: the notes are right again, and the count
    abbrev pub Kept : Turn → Type 0
    Kept (Moves th' e) = Noted sw (crossed th.place i) th' × ((perform e s).stop ≡ stop s.stop.on (counted th.place s.stop.count))
    Kept (Finishes e a) = (crossed th.place i ≡ false) × ((perform e s).stop ≡ stop s.stop.on (counted th.place s.stop.count))
    Kept (Finds c) = (crossed th.place i ≡ false) × (s.stop ≡ stop s.stop.on (counted th.place s.stop.count))
    Kept Full = Unit {0}
    Kept NoStore = Unit {0}

    either : (c : Bool) (o o' : Turn) → (c ≡ true → Kept o) → (c ≡ false → Kept o') → Kept (ite c o o')
    unfolding ite
    either true o o' f h = f refl
    either false o o' f h = h refl

    -- a step aside, from a place apart
    aside : (o : Turn) → Elsewhere th.place → Aside s.stop.on o → Kept o
    aside (Moves th' e) h (h', q) = (rw (h.1, h.2, aside_not k h) (aside_noted sw th' (ap (λ v. apart v th'.place) (sym e-on) ∙ h')), rw (h.1, h.2) (silent_stop e s q))
    aside (Finishes e a) h q = (rw (h.1, h.2) (aside_not k h), rw (h.1, h.2) (silent_stop e s q))
    aside (Finds c) h q = (rw (h.1, h.2) (aside_not k h), rw (h.1, h.2))
    aside Full h q = tt
    aside NoStore h q = tt

    -- ---- 1, 2, 4, 5

    -- to 2 with c routes read, fewer than 8, or to a base
    module _ (h4 : eqb th.place 4 ≡ false) (h5 : eqb th.place 5 ≡ false) (c : ℕ) (no : i ≡ false) (few : sw ≡ true → c ≤ 7) where
      abbrev read : Thread
      read = reading s.stop.on c th

      settles : (th' : Thread) → Noted sw false th' → Noted sw (crossed th.place i) th'
      settles th' n = rw (h4, h5, no) n

      same : s.stop ≡ stop s.stop.on (counted th.place s.stop.count)
      same = rw (h4, h5)

      leaf : (a : Action) (x : ℕ) → Kept (at_leaf a (sight_of s).nodes read x)
      leaf Lookup x = (rw (h4, h5) no, same)
      leaf Insert x = (settles _ (aside_noted sw _ refl), same)
      leaf Remove x = (settles _ (aside_noted sw _ refl), same)
      leaf Split x = (settles _ (aside_noted sw _ refl), same)
      leaf Join x = (settles _ (aside_noted sw _ refl), same)
      leaf Query x = tt

      arrive : (x : ℕ) → Kept (reached (sight_of s).nodes read x)
      unfolding reached
      arrive x = either _ _ _ (λ _. (
        settles _ (record {
          stands = λ z. rw (e-on ∙ z, le-ltb 7 c (few z));
          ready = λ z. absurd (omega (arith, z));
          off_out = λ _. refl;
          off_place = λ _. ((λ z. omega (arith, z)), (λ z. omega (arith, z)), (λ z. omega (arith, z)));
        }),
        same,
      )) (λ _. leaf th.action x)

    -- a counted search goes on
    passes : (e : Effect) (v : Bool) (c x : ℕ) → 7 < (reading v c th).read → crossed th.place i ≡ true → (sw ≡ false → ⊥)
        → (perform e s).stop ≡ stop s.stop.on (counted th.place s.stop.count) → Kept (onward e (sight_of s).nodes (reading v c th) x)
    unfolding onward
    passes e v c x l h f q = either _ _ _
        (λ _. (rw h (record { stands = λ _. rw (lt-ltb 7 (reading v c th).read l); ready = λ z. absurd (omega (arith, z)); off_out = λ z. absurd (f z); off_place = λ z. absurd (f z) }), q))
        (λ _. (rw h (record { stands = λ _. refl; ready = λ z. absurd (omega (arith, z)); off_out = λ z. absurd (f z); off_place = λ z. absurd (f z) }), q))

    at_1 : place_of th.place ≡ p1 → Kept (step p1 (sight_of s) th)
    unfolding step
    at_1 e = let h : Elsewhere th.place = rw (number_of th.place p1 e (omega arith)) (refl, refl, refl) in arrive h.1 h.2 0 (aside_not k h) (λ _. omega arith) s.root

    at_2 : place_of th.place ≡ p2 → Kept (step p2 (sight_of s) th)
    unfolding step followed
    at_2 e = go s.stop.on refl
      where
        two : th.place ≡ 2
        two = number_of th.place p2 e (omega arith)

        n4 : eqb th.place 4 ≡ false
        n4 = rw two

        n5 : eqb th.place 5 ≡ false
        n5 = rw two

        x : ℕ
        x = child_for th.station ((sight_of s).nodes th.route)

        -- the routes read since 1, this one among them
        k' : ℕ
        k' = one_more th.read

        go : (v : Bool) → s.stop.on ≡ v → Kept (followed v (sight_of s).nodes (reading s.stop.on k' th) x)
        go false z = arrive n4 n5 k' (k.off_out (sym e-on ∙ z)) (λ q. absurd (true≢false (sym q ∙ sym e-on ∙ z))) x
        go true z = either _ _ _
            (λ h. let r = ltb-true count 8 h in arrive n4 n5 k' (out (omega (arith, r, same))) (λ _. omega (arith, r, same)) x)
            (λ h. either _ _ _
            (λ h8. let r = eqb-true count 8 h8 in (
              rw (n4, n5, out (omega (arith, r, same)))
                  (record { stands = λ _. refl; ready = λ _. omega (arith, r); off_out = λ _. refl; off_place = λ q. absurd (on_sw q) }),
              rw (n4, n5),
            ))
            (λ h9. let l = over count (ltb-false count 8 h) (eqb-false count 8 h9) in
            passes Quiet s.stop.on k' x (omega (arith, l)) (rw (n4, n5) (is_in_lem (omega (arith, l, same)))) on_sw (rw (n4, n5))))
          where
            on_sw : sw ≡ false → ⊥
            on_sw q = true≢false (sym z ∙ e-on ∙ q)

            count : ℕ
            count = (reading s.stop.on k' th).read

            same : count ≡ k'
            same = rw z

            over : (m : ℕ) → 8 ≤ m → m ≢ 8 → 8 < m
            over m a b = omega (arith, a, b)

            i_is : i ≡ ltb 7 th.read
            i_is = k.stands (sym e-on ∙ z) ∙ rw two

            out : k' ≤ 8 → i ≡ false
            out l = i_is ∙ le-ltb 7 th.read (few_read th.read l)

            is_in_lem : 8 < k' → i ≡ true
            is_in_lem l = i_is ∙ lt-ltb 7 th.read (many_read th.read l)

    at_4 : place_of th.place ≡ p4 → Kept (step p4 (sight_of s) th)
    unfolding step
    at_4 e = passes Raise false 0 th.route (k.ready four) (rw four) (λ q. (k.off_place q).0 four) (rw four)
      where
        four : th.place ≡ 4
        four = number_of th.place p4 e (omega arith)

    at_5 : place_of th.place ≡ p5 → Kept (step p5 (sight_of s) th)
    unfolding step
    at_5 e = go th.action
      where
        five : th.place ≡ 5
        five = number_of th.place p5 e (omega arith)

        on_3 : Kept (Moves (at p3 th) Lower)
        on_3 = (rw five (aside_noted sw _ refl), rw five)

        go : (a : Action) → Kept (released a (sight_of s).nodes th)
        go Lookup = (rw five, rw five)
        go Insert = on_3
        go Remove = on_3
        go Split = on_3
        go Join = on_3
        go Query = tt

    -- a thread that is not at 2, 4 or 5 is apart
    stands_apart : Elsewhere th.place → apart s.stop.on th.place ≡ true
    stands_apart (h2, h4, h5) = rw (h2, h4, h5, e-on) (go sw refl)
      where
        go : (v : Bool) → sw ≡ v → not (eqb th.place 19 && not v) ≡ true
        go true z = elim (test (eqb th.place 19)) [ on e ↦ rw e | off e ↦ rw e ]
        go false z = rw (ne_eqb th.place 19 (k.off_place z).2)

    by_place : (p : Place) → place_of th.place ≡ p → Kept (step p (sight_of s) th) → Kept (step (place_of th.place) (sight_of s) th)
    by_place p e h = subst (λ v. Kept (step v (sight_of s) th)) (sym e) h

    pub kept : Kept (step (place_of th.place) (sight_of s) th)
    kept = elim (th.place ==? 1) [
      | yes e ↦ by_place p1 (ap place_of e) (at_1 (ap place_of e))
      | no n1 ↦
          elim (th.place ==? 2) [
            | yes e ↦ by_place p2 (ap place_of e) (at_2 (ap place_of e))
            | no n2 ↦
                elim (th.place ==? 4) [
                  | yes e ↦ by_place p4 (ap place_of e) (at_4 (ap place_of e))
                  | no n4 ↦
                      elim (th.place ==? 5) [
                        | yes e ↦ by_place p5 (ap place_of e) (at_5 (ap place_of e))
                        | no n5 ↦
                            (let h : Elsewhere th.place = (ne_eqb _ _ n2, ne_eqb _ _ n4, ne_eqb _ _ n5) in
                            aside (step (place_of th.place) (sight_of s) th) h (aside_op (sight_of s) th (place_of th.place) (stands_apart h)
                            (λ z. n1 (number_of th.place p1 z (omega arith))) (λ z. n2 (number_of th.place p2 z (omega arith)))
                            (λ z. n4 (number_of th.place p4 z (omega arith))) (λ z. n5 (number_of th.place p5 z (omega arith)))))
                      ]
                ]
          ]
    ]
