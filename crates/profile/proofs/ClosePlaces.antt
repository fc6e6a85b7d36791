-- The one writer's places 40 to 51: its join, once its main's stage is a node number.
use Rattle.std.specs.Prelude.{Option, Some, None}
use mathlib.Core.Path.{◌≡◌, refl, sym, ◌∙◌, ap, subst}
use mathlib.Core.Logic.{◌≢◌}
use mathlib.Core.Bool.{Bool, true, false}
use Prim.Native.Nat.{ℕ, suc}
use borrow.Author.Tests.{eq-eqb, ne_eqb, eqb-true, eqb-false}
use mathlib.Core.Logic.{inl}
use Rattle.definitions.specs.declared.Stage.TheVariants.{Done}
use Rattle.definitions.specs.declared.Action.{Action}
use Rattle.definitions.specs.declared.Quarter.{Quarter}
use Rattle.definitions.specs.declared.Spot.{Spot}
use Rattle.definitions.specs.declared.Spot.TheVariants.{Root, Under}
use Rattle.definitions.specs.declared.Probe.{Probe}
use Rattle.definitions.specs.Threads.{Thread, Turn}
use Rattle.definitions.specs.Nodes.{with_valid, with_stage, is_done, shape, over}
use Rattle.definitions.specs.Bench.{sight_of, Store}
use Rattle.definitions.specs.Places.{p40, p45, p46, p47, p48, p49, p50, p51, swap, united, at}
use Rattle.definitions.specs.Effects.{perform, hang, write}
use Rattle.definitions.specs.Steps.{united_by, invalid, names, replacement, cut_at, cut_on, cut_right, freeing, step}
use Rattle.answers.proofs.Memory.{kid_at}
use Rattle.answers.proofs.Tools.{◌==?◌, clash}
use Rattle.answers.proofs.PlaceNumbers.{place_number}
use Rattle.profile.proofs.Tidy.{Alike, alike_hang, alike_upd, used_hang, tidy_alike, tidy_hang, tidy_clear, tidy_done}
use Rattle.profile.proofs.Mine.{Sits, Probed, struck, onward, probed, occupant, sits_occupant, keep_kid, keep_root, Over, OnSide, Close, Mine}
use Rattle.profile.proofs.EarlyPlaces.{OkTurn, fork, pick_true, pick_false}

grand_hang : (v : Spot) (c : ℕ) (s : Store) (x : ℕ) → ((hang v c s).nodes x).grandparent ≡ (s.nodes x).grandparent
grand_hang Root c s x = refl
grand_hang (Under r d) c s x = elim (x ==? r) [ yes e ↦ rw (eq-eqb x r e, e) refl | no e ↦ rw (ne_eqb x r e) refl ]

-- a link that names a node
pub names_it : (l : Option ℕ) (P x : ℕ) → l ≡ Some P → x ≡ P → names l x ≡ true
names_it l P x e i = rw e (eq-eqb x P i)

named : (l : Option ℕ) (P x : ℕ) → l ≡ Some P → names l x ≡ true → x ≡ P
named l P x e i = eqb-true x P (rw e at i)

not_named : (l : Option ℕ) (P x : ℕ) → l ≡ Some P → names l x ≡ false → x ≢ P
not_named l P x e i = eqb-false x P (rw e at i)

close_hang : (v : Spot) (x : ℕ) (s : Store) {a : Action} {o : Bool} {m P : ℕ} → Close s a o m P → Close (hang v x s) a o m P
close_hang v x s {m = m} {P = P} k = record {
  act = k.act;
  owner = k.owner;
  tidy = rw (grand_hang v x s m) (tidy_hang v x s k.tidy);
  kind = (alike_hang v x s m).kind ∙ k.kind;
  stage = (alike_hang v x s m).stage ∙ k.stage;
  parent = (alike_hang v x s m).parent ∙ k.parent;
  route = (alike_hang v x s P).kind ∙ k.route;
}

over_hang : (v : Spot) (x : ℕ) (s : Store) (m P : ℕ) (g : Option ℕ) → occupant v s ≢ P → Over s m P g → Over (hang v x s) m P g
over_hang v x s m P None h i = keep_root v x s P h i
over_hang v x s m P (Some G) h (f, (i, j, l)) = (f, (keep_kid v x s f G P h i, (alike_hang v x s G).mark ∙ j, rw (used_hang v x s) l))

module _ (s : Store) (th : Thread) (c : ℕ) where
  abbrev Ok : Turn → Type 0
  Ok = OkTurn s th c

  pub at_40 : Mine p40 s th c → Ok (step p40 (sight_of s) th)
  unfolding step
  at_40 (P, k, o, h) = pick_false Ok _ _ _ (ap is_done k.stage) (P, k, o, h.spot, h.sits, tt, h.base)

  -- ---- 41 to 44

  pub at_united : (q : Quarter) → Mine (swap united q) s th c → Ok (step (swap united q) (sight_of s) th)
  unfolding step
  at_united q (P, k, o, v, i, h, ib) = by _ (probed s (s.nodes th.main).neighbour q v i h)
    where
      swung : (v : Spot) → Sits s v (s.nodes th.main).neighbour → Mine p45 (hang v (s.nodes th.main).union s) (at p45 th) (suc c)
      swung v i = (
        P,
        close_hang v (s.nodes th.main).union s k,
        rw (grand_hang v (s.nodes th.main).union s th.main) (over_hang v (s.nodes th.main).union s th.main P (s.nodes th.main).grandparent
            (λ z. ib (ap (λ y. (s.nodes y).kind) (sym (sits_occupant s v (s.nodes th.main).neighbour i) ∙ z) ∙ k.route)) o),
      )

      by : (p : Probe) → Probed s (s.nodes th.main).neighbour q p → Ok (united_by p (shape (s.nodes th.main)) th)
      by _ (struck v' i') = swung v' i'
      by _ (onward q' v' i' h' _) = rw (place_number (swap united q')) (P, k, o, v', i', h', ib)

  -- ---- 45, 46

  abbrev voided : ℕ → Store
  voided P = write P (over (with_valid false) (s.nodes P)) s

  field_45 : (P x : ℕ) → (((voided P).nodes x).grandparent ≡ (s.nodes x).grandparent) × (((voided P).nodes x).left ≡ (s.nodes x).left) × (((voided P).nodes x).right ≡ (s.nodes x).right)
  field_45 P x = elim (x ==? P) [ yes e ↦ rw (eq-eqb x P e, e) (refl, refl, refl) | no e ↦ rw (ne_eqb x P e) (refl, refl, refl) ]

  kid_45 : (P x : ℕ) (f : Bool) → kid_at f ((voided P).nodes x) ≡ kid_at f (s.nodes x)
  kid_45 P x true = (field_45 P x).1
  kid_45 P x false = (field_45 P x).2

  pub at_45 : Mine p45 s th c → Ok (step p45 (sight_of s) th)
  unfolding step
  at_45 (P, k, o) = subst (λ l. Mine p46 (perform (invalid l) s) (at p46 th) (suc c)) (sym k.parent) (
    P,
    record {
      act = k.act;
      owner = k.owner;
      tidy = rw (field_45 P th.main).0 (tidy_alike same k.tidy);
      kind = (same th.main).kind ∙ k.kind;
      stage = (same th.main).stage ∙ k.stage;
      parent = (same th.main).parent ∙ k.parent;
      route = (same P).kind ∙ k.route;
    },
    rw (field_45 P th.main).0 (over (s.nodes th.main).grandparent o),
  )
    where
      same : (x : ℕ) → Alike ((voided P).nodes x) (s.nodes x)
      same = alike_upd s.nodes P (over (with_valid false) (s.nodes P)) (record { kind = refl; mark = refl; parent = refl; stage = refl })

      over : (g : Option ℕ) → Over s th.main P g → Over (voided P) th.main P g
      over None i = i
      over (Some G) (f, (i, j, l)) = (f, (kid_45 P G f ∙ i, (same G).mark ∙ j, l))

  pub at_46 : Mine p46 s th c → Ok (step p46 (sight_of s) th)
  unfolding step
  at_46 (P, k, o) = go (s.nodes th.main).grandparent refl o
    where
      go : (l : Option ℕ) → (s.nodes th.main).grandparent ≡ l → Over s th.main P l → Ok (cut_at l (shape (s.nodes th.main)) (λ z. shape (s.nodes z)) s.root th)
      go None e i = pick_true Ok _ _ _ (names_it (s.nodes th.main).parent P s.root k.parent i)
          (record { act = k.act; owner = k.owner; tidy = tidy_hang Root (replacement (shape (s.nodes th.main))) s (rw e at k.tidy) })
      go (Some G) e (f, (i, j, l)) = fork s th c _ _ _ (λ z. (P, G, k, e, (named (s.nodes th.main).parent P (s.nodes G).left k.parent z, j, l)))
          (λ z. (P, G, k, e, (other f i (not_named (s.nodes th.main).parent P (s.nodes G).left k.parent z), j, l)))
        where
          other : (f : Bool) → kid_at f (s.nodes G) ≡ P → (s.nodes G).left ≢ P → (s.nodes G).right ≡ P
          other true i z = absurd (z i)
          other false i z = i

  -- ---- 47 to 50

  cuts : (d : Bool) (P G : ℕ) → Close s th.action th.owner th.main P → (s.nodes th.main).grandparent ≡ Some G → OnSide s th.main P G d
      → Ok (cut_on d (s.nodes th.main).grandparent (shape (s.nodes th.main)) (λ z. shape (s.nodes z)) th)
  cuts d P G k e (i, j, l) = subst (λ z. Ok (cut_on d z (shape (s.nodes th.main)) (λ z. shape (s.nodes z)) th)) (sym e) (pick_true Ok _ _ _ (names_it _ P _ k.parent i) (
    G,
    record {
      act = k.act;
      owner = k.owner;
      tidy = tidy_hang (Under G d) (replacement (shape (s.nodes th.main))) s (rw e at k.tidy);
      kind = (alike_hang (Under G d) (replacement (shape (s.nodes th.main))) s th.main).kind ∙ k.kind;
      grand = grand_hang (Under G d) (replacement (shape (s.nodes th.main))) s th.main ∙ e;
      mark = (alike_hang (Under G d) (replacement (shape (s.nodes th.main))) s G).mark ∙ j;
    },
  ))

  pub at_47 : Mine p47 s th c → Ok (step p47 (sight_of s) th)
  unfolding step
  at_47 (P, G, k, e, i) = cuts true P G k e i

  pub at_48 : Mine p48 s th c → Ok (step p48 (sight_of s) th)
  unfolding step
  at_48 (P, G, k, e, i) = subst (λ z. Ok (cut_right z (shape (s.nodes th.main)) (λ z. shape (s.nodes z)) th)) (sym e) (pick_true Ok _ _ _ (names_it _ P _ k.parent i.0) (P, G, k, e, i))

  pub at_49 : Mine p49 s th c → Ok (step p49 (sight_of s) th)
  unfolding step
  at_49 (P, G, k, e, i) = cuts false P G k e i

  pub at_50 : Mine p50 s th c → Ok (step p50 (sight_of s) th)
  unfolding step
  at_50 (G, k) = subst (λ z. Ok (freeing z (λ z. shape (s.nodes z)) th)) (sym k.grand) (pick_true Ok _ _ _ (names_it _ th.main _ k.mark refl)
      (record { act = k.act; owner = k.owner; tidy = tidy_clear s.nodes s.used th.main k.kind G k.tidy }))

  pub at_51 : Mine p51 s th c → Ok (step p51 (sight_of s) th)
  unfolding step
  at_51 k = pick_true Ok _ _ _ k.owner (
    tidy_done s.nodes s.used th.main (over (with_stage Done) (s.nodes th.main)) (record { kind = refl; mark = refl; parent = refl }) k.tidy refl,
    ((λ _. inl refl), (λ z. absurd (clash (let i = k.act in cc)))),
  )
