-- What the cells of a binary heap hold.
use Rattle.std.specs.Prelude.{◌≡◌, ℕ, ◌+◌, ◌-◌, ◌*◌, ◌/◌, ◌<◌, ◌≤◌, min, Bool, false, cond, ◌&&◌, List, Some, None, Option, ◌==◌, nat_le, slice_index}
use Rattle.parts.specs.Meaning.{most_cells, most_bits}
use Rattle.parts.specs.Queues.{most_tickets, key_limit}

-- how many cells an entry takes, and how many bits a cell needs to hold a key
abbrev pub entry_cells : ℕ
entry_cells = 3

abbrev pub least_bits : ℕ
least_bits = 28

-- the capacity of a heap over n cells of w bits: a third of the cells, or 0 where they are unfit
abbrev pub room : ℕ → ℕ → ℕ
room n w = cond (nat_le entry_cells n && nat_le n most_cells && nat_le least_bits w && nat_le w most_bits) (min (n / entry_cells) most_tickets) 0

-- The cell of an entry's ticket, that of its key, and the cell that tells at which entry a ticket is.
abbrev pub ticket_cell : ℕ → ℕ
ticket_cell e = entry_cells * e

abbrev pub key_cell : ℕ → ℕ
key_cell e = entry_cells * e + 1

abbrev pub place_cell : ℕ → ℕ
place_cell t = entry_cells * t + 2

abbrev pub parent : ℕ → ℕ
parent e = (e - 1) / 2

abbrev pub left_child : ℕ → ℕ
left_child e = 2 * e + 1

abbrev pub right_child : ℕ → ℕ
right_child e = 2 * e + 2

-- What cells say: of each entry its ticket and its key, and of each ticket its entry number plus 1, or 0 if it does not wait.
pub record Tree : Type 0 where
  pub ticket : ℕ → ℕ
  pub key : ℕ → ℕ
  pub place : ℕ → ℕ

abbrev pub tree_in : List ℕ → Tree
tree_in xs = record { ticket = λ e. slice_index xs (ticket_cell e); key = λ e. slice_index xs (key_cell e); place = λ t. slice_index xs (place_cell t) }

-- n entries of tickets below m: each ticket is at the entry that it is told to be at, and no other ticket waits
pub record Sound (m n : ℕ) (v : Tree) : Type 0 where
  pub tickets : (e : ℕ) → e < n → v.ticket e < m
  pub keys : (e : ℕ) → e < n → v.key e < key_limit
  pub back : (e : ℕ) → e < n → v.place (v.ticket e) ≡ e + 1
  pub there : (t : ℕ) → t < m → 0 < v.place t → (v.place t ≤ n) × (v.ticket (v.place t - 1) ≡ t)

-- no key is before that of its parent
abbrev pub Ordered : (ℕ → ℕ → Bool) → ℕ → (ℕ → ℕ) → Type 0
Ordered before n key = (e : ℕ) → 0 < e → e < n → before (key e) (key (parent e)) ≡ false

-- what waits under a ticket, by the cells
abbrev pub held : Tree → ℕ → Option ℕ
held v t = cond (v.place t == 0) None (Some (v.key (v.place t - 1)))
