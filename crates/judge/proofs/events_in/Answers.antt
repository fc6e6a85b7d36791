-- `judge::events_in` meets its contract. Assumes nothing.
use native.Mathlib.Omega.{arith}
use Prim.Native.Nat.{◌+◌, ◌-◌, ◌*◌}
use mathlib.Core.Path.{◌≡◌, refl, ◌∙◌, ap}
use lib.ListN.{length, drop}
use Rattle.std.proofs.lemmas.List.{length-drop, length-take}
use Rattle.definitions.specs.Schedule.{count_of}
use Rattle.judge.proofs.Whole.{form_right, chunks_of}
use Rattle.judge.proofs.events_in.Goals as goal

pub returns-clause-ok : goal.returns-clause-ok
unfolding count_of
returns-clause-ok c =
    let h = c.args.history.now in
    let n : c.from-count.result ≡ count_of h = c.from-count.ensures ∙ c.from_be_bytes.ensures in
    let all = chunks_of h _ c.as_chunks.result.0.now _ refl (c.if-events-count.false ∙ ap (λ m. 4 * m) n) c.as_chunks.ensures.front c.as_chunks.ensures.front_len in
    let long : length h ≡ 3 + 4 * count_of h = omega (arith, c.if-events-count.false, n, length-drop 3 h, length-take (length h - 3) (drop 3 h), c.in-len3-up.len_at_least) in (
      form_right h c.in-len3-up.len_at_least (omega (arith, c.if-version-ne1.false)) long,
      omega (arith, n, c.from-count.ensures, c.from_be_bytes.type_inv),
      all.0,
      all.1,
    )
