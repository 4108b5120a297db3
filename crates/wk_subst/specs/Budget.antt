-- What a substitution has cost, in the code and in the rules.
use Rattle.std.specs.Prelude.{◌≡◌, ℕ, ◌+◌, true, false, [], nat_lt}
use Rattle.wk_view_rules.specs.Expansions.{Progress, most_nodes, most_bytes}
use Rattle.wk_subst.specs.declared.spent.Spent.{Spent}

abbrev pub progress_of : Spent → Progress
progress_of spent = record {
  counters = record { nodes = spent.nodes; include = spent.bytes; argument = 0; exists = 0 };
  tested = [];
}

-- so many nodes were charged
pub record IsCharged (s : Spent) (n : ℕ) (t : Spent) : Type 0 where
  pub fits : nat_lt most_nodes (s.nodes + n) ≡ false
  pub is : t ≡ record s { nodes = s.nodes + n }

-- the budget hasn't so many nodes, and is spent
pub record IsBeyond (s : Spent) (n : ℕ) (t : Spent) : Type 0 where
  pub fits : nat_lt most_nodes (s.nodes + n) ≡ true
  pub is : t ≡ record s { nodes = most_nodes }

-- so many bytes were counted
pub record IsCounted (s : Spent) (n : ℕ) (t : Spent) : Type 0 where
  pub fits : nat_lt most_bytes (s.bytes + n) ≡ false
  pub is : t ≡ record s { bytes = s.bytes + n }

-- so many bytes would be too many
pub record IsTooLong (s : Spent) (n : ℕ) (t : Spent) : Type 0 where
  pub fits : nat_lt most_bytes (s.bytes + n) ≡ true
  pub is : t ≡ s
