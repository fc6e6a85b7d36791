-- 81, the swap that sets a store, and 82, the end of a frame: a query's row. It rests on Fill.antt.
use Rattle.std.specs.Prelude.{Option, Some, None}
use mathlib.Core.Path.{◌≡◌, refl, sym, ◌∙◌, ap, subst}
use mathlib.Core.Logic.{◌⊎◌}
use mathlib.Core.Bool.{Bool, true, false, not, ◌&&◌, true≢false, false≢true}
use mathlib.Core.List.{List, [], ◌∷◌}
use Prim.Native.Nat.{ℕ, suc, ◌<◌, ◌≤◌}
use native.Mathlib.Omega.{arith}
use lib.Dec.{eqb, leb}
use borrow.Author.Tests.{eq-eqb, leb-true}
use Rattle.container.specs.Depths.{is_in}
use Rattle.container.specs.Choice.{upd}
use Rattle.container.specs.Container.{has, cut}
use Rattle.container.proofs.Laws.{has_cut}
use Rattle.definitions.specs.declared.Action.{Action}
use Rattle.definitions.specs.declared.Action.TheVariants.{Lookup, Insert, Remove, Split, Join, Query}
use Rattle.definitions.specs.declared.Effect.TheVariants.{Quiet, Fill}
use Rattle.definitions.specs.Nodes.{Nodes}
use Rattle.definitions.specs.Bench.{Bench, sight_of}
use Rattle.definitions.specs.Threads.{Frame, Thread}
use Rattle.definitions.specs.Places.{p81, p82, at}
use Rattle.definitions.specs.Frames.{reaches, between, store_of, back_in}
use Rattle.definitions.specs.Effects.{perform}
use Rattle.definitions.specs.Steps.{filling, leaving, read_out, is_query, step}
use Rattle.definitions.specs.Plain.{settled}
use Rattle.definitions.specs.Answers.{said}
use Rattle.definitions.specs.Claim.{moment, opened, inside, FitsRange}
use Rattle.answers.proofs.Tools.{clash}
use Rattle.answers.proofs.Memory.{World, Hist}
use Rattle.answers.proofs.FrameFacts.{Short, own_free, blocked, prev_of, Asks, Bottom, free, rides, Own, PileOf, Complete, Ready, TopOf}
use Rattle.answers.proofs.Knows.{looks, Know}
use Rattle.answers.proofs.Invariant.{Ghost, Inv, alike, Stands, seen, pile_alike, pile_opened, kin_pile, build, away}
use Rattle.answers.proofs.Shown.{Good, either, ends_quiet, T'}
use Rattle.answers.proofs.ReadPlaces.{go_frames, know_now, here}
use Rattle.answers.proofs.Returns.{returns, asks_begun}
use Rattle.answers.proofs.RangeSets.{between_has}
use Rattle.answers.proofs.Fill.{timed, fill}
use Rattle.answers.proofs.FillKnown.{fill_rely}
use Rattle.answers.proofs.FirstPlaces.{framed_ok, on_not_back}
use Rattle.answers.proofs.WalkPlaces.{pile_f, top_f, f_top}

-- a result cut to a query's range
cut_right_lem : (r l h : ℕ) (H : ℕ → Bool) → ((s : ℕ) → l ≤ s → s ≤ h → has r s ≡ H s) → (s : ℕ) → s < 64 → has (cut r (between l h)) s ≡ inside l h s && H s
cut_right_lem r l h H f s i = has_cut r (between l h) s ∙ ap (λ v. has r s && v) (between_has l h s i) ∙ go (inside l h s) refl
  where
    two_on : (c d : Bool) → c && d ≡ true → (c ≡ true) × (d ≡ true)
    two_on true d e = (refl, e)
    two_on false d e = absurd (false≢true e)

    off_right : (c : Bool) → c && false ≡ false
    off_right true = refl
    off_right false = refl

    on_right : (c : Bool) → c && true ≡ c
    on_right true = refl
    on_right false = refl

    go : (v : Bool) → inside l h s ≡ v → has r s && v ≡ v && H s
    go false e = off_right (has r s)
    go true e = let (a, c) = two_on (leb l s) (leb s h) e in on_right (has r s) ∙ f s (leb-true l s a) (leb-true s h c)

query_is : (a : Action) → is_query a ≡ true → a ≡ Query
query_is Lookup e = absurd (false≢true e)
query_is Insert e = absurd (false≢true e)
query_is Remove e = absurd (false≢true e)
query_is Split e = absurd (false≢true e)
query_is Join e = absurd (false≢true e)
query_is Query e = refl

module _ {b : Bench} {hist : Hist} {now : ℕ} {first : ℕ → Option ℕ} (inv : Inv b hist now first) (t : ℕ) where
  abbrev th : Thread
  th = b.threads t

  abbrev W : Nodes → Ghost → World
  W n g = seen n b.store g now

  abbrev W' : Nodes → Ghost → World
  W' n g = seen n b.store g (suc now)

  -- ---- 81
  pub ok_81 : Stands b t p81 → Good inv t (step p81 (sight_of b.store) th)
  unfolding step
  ok_81 e = framed_ok inv t th.frames refl _ (λ f fs E. go f fs E (b.store.stores (store_of f.store)) refl)
    where
      nl : looks th.action ≡ false
      nl = (know_now inv t p81 e).1

      go : (f : Frame) (fs : List Frame) → th.frames ≡ f ∷ fs → (v : Option ℕ) → b.store.stores (store_of f.store) ≡ v → Good inv t (filling v f th)
      go f fs E (Some c) q = go_frames inv t p81 _ e refl (λ z _. clash (cc)) refl (λ n g a m k pl₀. let pl = pile_f inv t f fs E (W' n g) pl₀ in
          let co = top_f inv t f fs E (λ f. Complete (W' n g) f) k.0 in
          let (S, as₀) = asks_begun (W' n g) hist (T' inv t) th f fs pl co.begun in (
            (f_top inv t f fs E (λ f. Ready (W' n g) f) (S, c, as₀.store, sym (ap (λ v. b.store.stores (store_of v)) as₀.store) ∙ q), nl),
            pile_alike (W' n g) hist (T' inv t) th (at p82 th) th.frames refl refl refl pl₀,
          ))
      go f fs E None q =
          λ qu. build inv t (perform (Fill (store_of f.store) f.done) b.store) (at p82 th) (λ _. Unit {0}) (inv.stations t) (λ z _. clash (cc)) (away inv t (at p82 th) refl) (λ _ _ _. tt) (λ n a. (
            n,
            a,
            λ g m k₀ pl₀.
                let S = store_of f.store in let k = subst (λ v. Know v (W n g) (moment (first t)) th) e k₀ in
                let pl = subst (λ v. PileOf (W n g) hist (moment (first t)) th v) E pl₀ in let co = subst (λ v. TopOf v (λ f. Complete (W n g) f)) E k.0 in
                let (S₀, as₀) = asks_begun (W n g) hist (moment (first t)) th f fs pl co.begun in let z : S₀ ≡ S = sym (ap store_of as₀.store) in
                let ask : Asks (W n g) hist f S = subst (λ v. Asks (W n g) hist f v) z as₀ in let d = ask.added co.begun in
                let right : (s : ℕ) → (g.tale S).start ≤ s → s ≤ (g.tale S).upper → has f.done s ≡ is_in (hist now s) =
                λ s i j. d.agrees q s i (let v = co.passed S ask.store q in omega (arith, ask.upper)) in
                let full : (reaches (n (prev_of f)).container.set (g.tale S).upper ≡ true) ⊎ (g.hi (prev_of f) ≡ 64) =
                subst (λ v. (reaches (n (prev_of f)).container.set v ≡ true) ⊎ (g.hi (prev_of f) ≡ 64)) ask.upper (co.full S ask.store q) in
                let re = fill_rely m S f.done qu ask.low q right (prev_of f) d.of d.born full in
                record {
                  ghost = record { lo = g.lo; hi = g.hi; up = g.up; life = g.life; tale = upd g.tale S (timed (suc now) (g.tale S)) };
                  mem = fill m S f.done qu ask.low q right;
                  rely = re;
                  linked = λ x i j. absurd (omega arith);
                  know = (
                    subst (λ v. TopOf v (λ h. (Z c : ℕ) × (h.store ≡ Some Z) × (upd b.store.stores (store_of f.store) (Some f.done) Z ≡ Some c))) (sym E) (S, f.done, ask.store, rw (eq-eqb S S refl)),
                    nl,
                  );
                  pile = kin_pile inv t _ _ (λ _. Unit {0}) (at p82 th) (alike refl refl refl refl) re refl pl₀;
                },
          ))

  -- ---- 82
  still_of : (a : Action) → a ≡ Query → (st d : ℕ) → ((z : ℕ) → hist (suc now) z ≡ settled a st d (hist now) z) → (z : ℕ) → hist (suc now) z ≡ hist now z
  still_of a e st d f z = f z ∙ ap (λ v. settled v st d (hist now) z) e

  pub ok_82 : Stands b t p82 → Good inv t (step p82 (sight_of b.store) th)
  unfolding step
  ok_82 e = framed_ok inv t th.frames refl _ (λ f fs E. go f fs E (b.store.stores (store_of f.store)) refl)
    where
      nl : looks th.action ≡ false
      nl = (know_now inv t p82 e).1

      -- the pile under the frame that ends
      under : (w : World) (T : ℕ) (f : Frame) (fs : List Frame) → PileOf w hist T th (f ∷ fs) → PileOf w hist T th fs
      under w T f [] p = tt
      under w T f (g ∷ fs) (_, _, p) = p

      -- and its frame on top is short
      waited : (w : World) (T : ℕ) (f : Frame) (fs : List Frame) → PileOf w hist T th (f ∷ fs) → TopOf fs (λ g. Short w g)
      waited w T f [] p = tt
      waited w T f (g ∷ fs) (_, own_free _ i, _) = λ y. absurd (true≢false (sym y ∙ i))
      waited w T f (g ∷ fs) (_, blocked _ i _, _) = λ _. i

      leave : (f : Frame) (fs : List Frame) → th.frames ≡ f ∷ fs → Good inv t (back_in fs Quiet th)
      leave f fs E = returns th Quiet (Good inv t) (either inv t) fs (λ th' rt. go_frames inv t p82 th' e rt.station (on_not_back inv t th' nl rt.action) rt.apart
          (λ n g a m k pl₀. rt.knows (W' n g) hist (T' inv t) nl (under (W' n g) (T' inv t) f fs (pile_f inv t f fs E (W' n g) pl₀))
          (waited (W' n g) (T' inv t) f fs (pile_f inv t f fs E (W' n g) pl₀))))

      -- a query's row
      row : (f : Frame) → th.frames ≡ f ∷ [] → (c : ℕ) → b.store.stores (store_of f.store) ≡ Some c → is_query th.action ≡ true
          → FitsRange th.station th.extra hist (T' inv t) now (said (not (eqb (cut c (between th.station th.extra)) 0))) (cut c (between th.station th.extra))
      row f E c q iq = let h = here inv t in let w = W b.store.nodes h.ghost in
          let pl : PileOf w hist (T' inv t) th (f ∷ []) =
          subst (λ v. PileOf w hist v th (f ∷ [])) (sym same_first) (pile_opened w hist (first t) now th (f ∷ []) (subst (λ v. PileOf w hist (moment (first t)) th v) E (h.piles t))) in
          fin (subst (λ v. Own v w hist (T' inv t) th f) iq pl)
        where
          same_first : T' inv t ≡ moment (opened (first t) now)
          same_first = rw (eq-eqb t t refl)

          ready : Ready (W b.store.nodes (here inv t).ghost) f
          ready = subst (λ v. TopOf v (λ f. Ready (W b.store.nodes (here inv t).ghost) f)) E (know_now inv t p82 e).0

          fin : Bottom (W b.store.nodes (here inv t).ghost) hist (T' inv t) th f
              → FitsRange th.station th.extra hist (T' inv t) now (said (not (eqb (cut c (between th.station th.extra)) 0))) (cut c (between th.station th.extra))
          fin (free i _ _ _ _ _ _) = absurd (clash (let v = ready.2 in cc))
          fin (rides S a i j _ tm) = let q' : b.store.stores S ≡ Some c = ap (λ v. b.store.stores (store_of v)) (sym a.store) ∙ q in let o = (here inv t).mem.tales.found S c q' in (
            ((here inv t).ghost.tale S).time,
            tm c q',
            omega (arith, o.0),
            cut_right_lem c th.station th.extra (λ s. is_in (hist ((here inv t).ghost.tale S).time s)) (λ s u v. o.1 s (omega arith) (omega arith)),
            refl,
          )

      leaves : (fs : List Frame) (f : Frame) → th.frames ≡ f ∷ fs → (c : ℕ) → b.store.stores (store_of f.store) ≡ Some c → Good inv t (leaving fs c th)
      leaves [] f E c q = either inv t _ _ _ (λ iq fe. (ends_quiet inv t (still_of th.action (query_is _ iq) th.station th.extra fe), query_is _ iq, row f E c q iq)) (λ _. leave f [] E)
      leaves (g ∷ fs) f E c q = leave f (g ∷ fs) E

      go : (f : Frame) (fs : List Frame) → th.frames ≡ f ∷ fs → (v : Option ℕ) → b.store.stores (store_of f.store) ≡ v → Good inv t (read_out v fs th)
      go f fs E None q = tt
      go f fs E (Some c) q = leaves fs f E c q
