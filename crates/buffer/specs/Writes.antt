-- What a call that writes on a page has done: p is the page before, q the one after.
use Rattle.std.specs.Prelude.{◌≡◌, ℕ, List}
use Rattle.buffer.specs.declared.Page.{Page}
use Rattle.buffer.specs.Page.{page, put_all}

-- the buffer is the same one, and takes these bytes where the page's place was
abbrev pub Writes : Page → Page → List ℕ → Type 0
Writes p q xs = (q.bytes.ghost_name ≡ p.bytes.ghost_name) × (page q.bytes.now q.at ≡ put_all (page p.bytes.now p.at) xs)
