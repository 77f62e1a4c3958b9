-- Two tables that differ in N alone (document 01, "Table" and "Runs").
-- Assumes nothing.
use Rattle.std.specs.Prelude.{ℕ, ◌≡◌, List}
use Rattle.model.specs.Layout.{capacity_of, replica_at}
use Rattle.model.specs.Tables.{contents}
use Rattle.model.specs.Calls.{table_number, merge_number, merge_table, merge_changed, shown_list}

-- Table check accepts u, whose N is n, and replica, contents and list are those of t; merged into any table it does what t does.
pub record OfCapacity (s t u : List ℕ) (n : ℕ) : Type 0 where
  pub accepted : table_number s u ≡ 0
  pub capacity : capacity_of u ≡ n
  pub replica : replica_at u ≡ replica_at t
  pub same : contents u ≡ contents t
  pub list : shown_list s u ≡ shown_list s t
  pub answers : (own : List ℕ) → merge_number s own u ≡ merge_number s own t
  pub merges : (own : List ℕ) → merge_table s own u ≡ merge_table s own t
  pub counts : (own : List ℕ) → merge_changed s own u ≡ merge_changed s own t
