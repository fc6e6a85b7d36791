-- The definition fixes every field of the report, for every file. Assumes nothing.
use mathlib.Core.Path.{◌≡◌, sym, ◌∙◌, ap}
use mathlib.Core.Bool.{Bool}
use mathlib.Core.List.{List}
use Prim.Native.Nat.{ℕ, zero, suc}
use Rattle.definitions.specs.History.{Operations, history_refusal, reading_of}
use Rattle.definitions.specs.Judgement.{padded, FirstOrder, Verdict, accepts, rejects, JudgementBy, Judgement}
use Rattle.definitions.specs.declared.Judged.{Judged}
use Rattle.judge.proofs.Rest.{first_both}

abbrev make : ℕ → Bool → ℕ → List ℕ → Judged
make k a n o = record { refusal = k; accepted = a; operations = n; order = o }

same_fields : (r s : Judged) → r.refusal ≡ s.refusal → r.accepted ≡ s.accepted → r.operations ≡ s.operations → r.order ≡ s.order → r ≡ s
same_fields r s a b c d =
    ap (λ x. make x r.accepted r.operations r.order) a
    ∙ ap (λ x. make s.refusal x r.operations r.order) b
    ∙ ap (λ x. make s.refusal s.accepted x r.order) c
    ∙ ap (λ x. make s.refusal s.accepted s.operations x) d

-- there is one first order
pub first_unique : (R : Operations) (l m : List ℕ) → FirstOrder R l → FirstOrder R m → l ≡ m
first_unique R l m p q = first_both l m (p.first m q.order) (q.first l p.order)

verdict_same : (R : Operations) (r s : Judged) → Verdict R r → Verdict R s → (r.accepted ≡ s.accepted) × (r.order ≡ s.order)
verdict_same R r s (accepts l p a o) (accepts m q b u) = (a ∙ sym b, o ∙ ap padded (first_unique R l m p q) ∙ sym u)
verdict_same R r s (accepts l p a o) (rejects h b u) = absurd (h l p.order)
verdict_same R r s (rejects h a o) (accepts m q b u) = absurd (h m q.order)
verdict_same R r s (rejects h a o) (rejects k b u) = (a ∙ sym b, o ∙ sym u)

by_number : (k : ℕ) (file : List ℕ) (r s : Judged) → JudgementBy k file r → JudgementBy k file s → r ≡ s
by_number zero file r s p q = let v = verdict_same (reading_of file).all r s p.verdict q.verdict in
    same_fields r s (p.number ∙ sym q.number) v.0 (p.operations ∙ sym q.operations) v.1
by_number (suc k) file r s p q = same_fields r s (p.number ∙ sym q.number) (p.nothing.0 ∙ sym q.nothing.0) (p.nothing.1 ∙ sym q.nothing.1) (p.nothing.2 ∙ sym q.nothing.2)

pub report_unique : (file : List ℕ) (r s : Judged) → Judgement file r → Judgement file s → r ≡ s
report_unique file r s = by_number (history_refusal file) file r s
