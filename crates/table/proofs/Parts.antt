-- For src/rows.rt and src/index.rt: rows of a kind, how long a table is. Assumes nothing.
use mathlib.Core.Path.{◌≡◌}
use mathlib.Core.List.{List, []}
use Prim.Native.Nat.{ℕ, ◌+◌, ◌-◌, ◌*◌, ◌≤◌, ◌<◌}
use native.Mathlib.Omega.{arith}
use lib.ListN.{get_or}
use borrow.Author.Tests.{lt-ltb, le-ltb, le-leb, lt-leb}
use Rattle.laws.proofs.Cases.{by_lt}
use Rattle.entity.specs.Limits.{byte_limit}
use Rattle.table.specs.Layout.{kind_index, cells_at, table_length}
use Rattle.table.specs.Rows.{row_in, first_in, count_in, kind_row}

-- row n of kind k, where f and u are where the kind's rows begin and end
module _ (t : List ℕ) (k n : ℕ) {f u : ℕ} (p : f ≡ first_in t k) (q : u ≡ get_or t (kind_index + k + 1) 0) where
  pub kind_hit : n < u - f → row_in t (f + n) ≡ kind_row t k n
  unfolding kind_row
  kind_hit h = let h' : n < count_in t k = rw (p, q) at h in rw (p, lt-ltb n (count_in t k) h')

  pub kind_miss : u - f ≤ n → [] ≡ kind_row t k n
  unfolding kind_row
  kind_miss h = let h' : count_in t k ≤ n = rw (p, q) at h in rw (le-ltb n (count_in t k) h')

-- how long a table is
module _ (n : ℕ) where
  pub room_short : n ≤ 1024 → 2604 ≡ table_length n
  unfolding table_length
  room_short h = rw (le-leb n 1024 h)

  pub room_middle : 1024 < n → n ≤ 8192 → 7384 ≡ table_length n
  unfolding table_length
  room_middle l h = rw (lt-leb n 1024 l, le-leb n 8192 h)

  pub room_long : 1024 < n → 8192 < n → 45612 ≡ table_length n
  unfolding table_length
  room_long l h = rw (lt-leb n 1024 l, lt-leb n 8192 h)

  -- rows and cells of a sheet of n bytes, two for each three bytes at most, stand in it
  pub room_enough : (m j : ℕ) → table_length n ≤ m → n ≤ byte_limit → 3 * j ≤ 2 * n → cells_at + j < m
  room_enough m j h b u =
      by_lt 1024 n
      (λ l. by_lt 8192 n (λ k. omega (arith, room_long l k)) (λ k. omega (arith, room_middle l k)))
      (λ l. omega (arith, room_short l))
