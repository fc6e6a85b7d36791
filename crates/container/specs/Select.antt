-- The place of a set bit by the number of set bits below it (02, d).
use Rattle.std.specs.Prelude.{ℕ, zero, suc, ◌+◌, ◌*◌, ◌/◌, ◌%◌, ◌<◌, ◌&&◌, eqb, ltb}
use Rattle.std.specs.Int.Count.{ones_in}
use Rattle.container.specs.Choice.{ite}
use Rattle.container.specs.Container.{has}

-- the first place from p on, n places long, whose bit of w is set and has h set bits below it; p + n where there is none
unfoldable pub seek : ℕ → ℕ → ℕ → ℕ → ℕ
seek zero p w h = p
seek (suc n) p w h = ite (has w p && eqb (ones_in p w) h) p (seek n (suc p) w h)

-- "for each byte and each position 0 to 7, the place of the set bit that has that many set bits below it, or 8 where there is none"
unfoldable pub selected : ℕ → ℕ → ℕ
selected byte position = seek 8 0 byte position

-- running counts of ones: in each of n bytes, a and the ones of that byte of w and of the bytes below it
unfoldable pub running : ℕ → ℕ → ℕ → ℕ
running zero a w = 0
running (suc n) a w = running n (a + ones_in 8 w) (w / 256) * 256 + (a + ones_in 8 w)

-- where the first of the bytes of t that is over h begins; at byte n where none below it is
unfoldable pub passing : ℕ → ℕ → ℕ → ℕ
passing zero t h = 0
passing (suc n) t h = ite (ltb h (t % 256)) 0 (8 + passing n (t / 256) h)

-- each of the n lowest bytes of t is under 128
unfoldable pub Low : ℕ → ℕ → Type 0
Low zero t = Unit {0}
Low (suc n) t = (t % 256 < 128) × Low n (t / 256)
