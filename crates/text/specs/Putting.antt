-- What is put into a lent room, and what stays there.
use Rattle.std.specs.Prelude.{◌≡◌, cond, List, [], ◌++◌, ℕ, ◌+◌, ◌≤◌, leb, length, take, drop}

-- `bytes` was put at `at` into a room that held `before`: now it holds `after`, and the next free place is r
pub record Put (before : List ℕ) (at : ℕ) (bytes : List ℕ) (after : List ℕ) (r : ℕ) : Type 0 where
  pub next : r ≡ at + length bytes
  pub room : after ≡ take at before ++ bytes ++ drop (at + length bytes) before

-- what of a text is put: all of it where `size` bytes are free from `at` on in a room of that length, and else nothing
unfoldable pub where_free : ℕ → ℕ → ℕ → List ℕ → List ℕ
where_free room at size s = cond (leb (at + size) room) s []

-- `bytes` was put at `at` where `size` bytes were free there, and else nothing; the next free place is at most so far on
pub record PutFree (before : List ℕ) (at size : ℕ) (bytes after : List ℕ) (r : ℕ) : Type 0 where
  pub put : Put before at (where_free (length before) at size bytes) after r
  pub bound : r ≤ at + size

-- a room whose first n bytes are now those that stood from `from` on
abbrev pub fronted : List ℕ → ℕ → ℕ → List ℕ
fronted room from n = take n (drop from room) ++ drop n room
