-- The walk along the table writes the first order. Assumes nothing.
use mathlib.Core.Path.{◌≡◌, refl, sym, ◌∙◌, ap, subst}
use mathlib.Core.List.{List, [], ◌∷◌, ◌++◌, append_assoc, append-nil}
use Prim.Native.Nat.{ℕ, suc, ◌+◌, ◌-◌, ◌<◌, ◌≤◌, ◌^◌}
use native.Mathlib.Omega.{arith}
use lib.ListN.{get_or, length, set, replicate, length-append}
use lib.Seq.{set_at}
use lib.Pow.{pow_pos}
use Rattle.container.specs.Container.{insert}
use Rattle.definitions.specs.History.{Operations}
use Rattle.definitions.specs.Judgement.{padded}
use Rattle.judge.specs.declared.Next.{Next}
use Rattle.judge.specs.declared.Next.TheVariants.{Dead, Go}
use Rattle.judge.specs.Search.{Best, Sound, Down, Entry, dead, alive, next_of, Filled}
use Rattle.judge.proofs.Rest.{head_undone, head_before, best_tail, best_one, to_order}
use Rattle.judge.proofs.Lengths.{each_length}
use Rattle.judge.proofs.Table.{insert_below, down_none, down_more}

-- p operations are placed; `order` is the array
pub record Traced (R : Operations) (M p : ℕ) (order : List ℕ) : Type 0 where
  pub done : List ℕ
  pub rest : List ℕ
  pub best : Best R M rest
  pub low : M < 2 ^ R.count
  pub down : Down R M
  pub placed : length done ≡ p
  pub holds : order ≡ done ++ replicate (12 - p) 0
  pub whole : (l : List ℕ) → Best R 0 l → l ≡ done ++ rest
  pub total : p + length rest ≡ R.count

module _ (R : Operations) (sound : Sound R) where
  pub trace_start : (l : List ℕ) → Best R 0 l → Traced R 0 0 (replicate 12 0)
  trace_start l b = record {
    done = [];
    rest = l;
    best = b;
    low = pow_pos R.count;
    down = down_none R;
    placed = refl;
    holds = refl;
    whole = λ m c. best_one c b;
    total = omega (arith, each_length R.count l (to_order R l b.rest).each);
  }

  -- what the table says where an operation is left
  record Said (M : ℕ) (v : Next) (rest : List ℕ) : Type 0 where
    pub next : ℕ
    pub then : List ℕ
    pub is : rest ≡ next ∷ then
    pub mark : v ≡ Go next

  said : (M : ℕ) (v : Next) (rest : List ℕ) → 0 < length rest → Best R M rest → Entry R M v → Said M v rest
  said M v [] h b e = absurd (omega arith)
  said M v (i ∷ l) h b (dead none _) = absurd (none (i ∷ l) b.rest)
  said M v (i ∷ l) h b (alive m c q) = record { next = i; then = l; is = refl; mark = q ∙ ap next_of (best_one c b) }

  module _ (M p : ℕ) (order : List ℕ) (table : List Next) (t : Traced R M p order) (more : p < R.count) (filled : Filled R table 0) where
    now : Said M (get_or table M Dead) t.rest
    now = said M (get_or table M Dead) t.rest (omega (arith, t.total)) t.best (filled M (omega arith) t.low t.down)

    best_now : Best R M (now.next ∷ now.then)
    best_now = subst (λ l. Best R M l) now.is t.best

    pub trace_go : ((i : ℕ) → get_or table M Dead ≡ Go i → ⊥) → ⊥
    trace_go h = h now.next now.mark

    is_next : (i : ℕ) → get_or table M Dead ≡ Go i → i ≡ now.next
    is_next i here = let w : Go i ≡ Go now.next = sym here ∙ now.mark in cc

    room : 12 - p ≡ suc (12 - (p + 1))
    room = omega (arith, sound.few)

    cell : order ≡ t.done ++ 0 ∷ replicate (12 - (p + 1)) 0
    cell = t.holds ∙ rw room

    pub trace_step : (i N : ℕ) → get_or table M Dead ≡ Go i → N ≡ insert M i → Traced R N (p + 1) (set order p i)
    trace_step i N here e = rw (e, is_next i here) (record {
      done = t.done ++ now.next ∷ [];
      rest = now.then;
      best = best_tail R sound M now.next now.then best_now;
      low = insert_below M now.next R.count (head_undone R sound M now.next now.then best_now.rest).0 sound.few t.low;
      down = down_more R M now.next (omega (arith, sound.few, (head_undone R sound M now.next now.then best_now.rest).0)) t.down (head_before R sound M now.next now.then best_now.rest);
      placed = length-append t.done (now.next ∷ []) ∙ (omega (arith, t.placed));
      holds = ap (λ l. set l p now.next) cell ∙ set_at t.done 0 (replicate (12 - (p + 1)) 0) now.next p t.placed ∙ sym (append_assoc t.done (now.next ∷ []) (replicate (12 - (p + 1)) 0));
      whole = λ l b. t.whole l b ∙ ap (λ m. t.done ++ m) now.is ∙ sym (append_assoc t.done (now.next ∷ []) now.then);
      total = omega (arith, t.total, ap length now.is);
    })

  pub trace_end : (M p : ℕ) (order : List ℕ) → Traced R M p order → R.count ≤ p → (l : List ℕ) → Best R 0 l → order ≡ padded l
  trace_end M p order t h l b = t.holds ∙ go t.rest (omega (arith, t.total)) (t.whole l b)
    where
      go : (rest : List ℕ) → length rest ≡ 0 → l ≡ t.done ++ rest → t.done ++ replicate (12 - p) 0 ≡ padded l
      go [] _ e = let q : l ≡ t.done = e ∙ append-nil t.done in rw (q, t.placed)
      go (x ∷ rest) z e = absurd (omega arith)
