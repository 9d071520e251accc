-- A row over so many unknowns is one over more.
use Rattle.std.proofs.Common.{◌≡◌, ℕ, ◌≤◌, true, Some, None, Option, is_some, arith}
use Rattle.std.proofs.ByRecursion.{All-weaker}
use Rattle.sheet.specs.declared.row.Row.{Row}
use Rattle.sheet.specs.Rows.{Fine, Fits, Written, terms_of}

pub fits_more : (m n : ℕ) (r : Row) → m ≤ n → Fits m r → Fits n r
fits_more m n r h f = record {
  each = All-weaker (Fine m) (Fine n) (λ t p. record { low = p.low; high = omega (arith, h, p.high); small = p.small }) (terms_of r) f.each;
  small = f.small;
}

pub written_fits : (m n : ℕ) (old new : Row) (done : Option (Unit {0})) → m ≤ n → Written m old new done → is_some done ≡ true → Fits n new
written_fits m n old new (Some x) h w e = fits_more m n new h w
written_fits m n old new None h w e = absurd (cc)
