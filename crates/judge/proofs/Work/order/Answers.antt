-- `judge::Work::order` meets its contract. Assumes nothing.
use mathlib.Core.Path.{◌≡◌, subst}
use mathlib.Core.Bool.{true≢false}
use mathlib.Core.List.{List}
use Prim.Native.Nat.{ℕ}
use Rattle.definitions.specs.Judgement.{Order, FirstOrder, padded}
use Rattle.judge.specs.Standing.{held}
use Rattle.judge.proofs.Rest.{first_order}
use Rattle.judge.proofs.Whole.{decide_no, decide_yes}
use Rattle.judge.proofs.Work.order.Goals as goal

pub returns-in-Dead-clause-none : goal.returns-in-Dead-clause-none
returns-in-Dead-clause-none c =
    λ _. subst (λ w. (l : List ℕ) → Order (held w) l → ⊥) c.fill.ensures.work (decide_no (held c.fill.new.self.work) c.fill.new.self.next c.fill.ensures.filled c.in-Dead.is)

pub trace-requires : goal.trace-requires
trace-requires c = record { filled = c.fill.ensures.filled; some = decide_yes (held c.fill.new.self.work) c.fill.new.self.next c.fill.ensures.filled c.in_default.not-Dead }

pub returns : goal.returns
returns c =
    let w = c.fill.new.self.work in
    let b = decide_yes (held w) c.fill.new.self.next c.fill.ensures.filled c.in_default.not-Dead in
    record {
      some = subst (λ v. (l : List ℕ) × FirstOrder (held v) l × (c.trace.result ≡ padded l)) c.fill.ensures.work (b.0, first_order (held w) b.0 b.1, c.trace.ensures b.0 b.1);
      none = λ z. absurd (true≢false z);
    }
