-- How many bytes calls append and read.
use Rattle.std.specs.Prelude.{◌≡◌, ℕ, ◌+◌, ◌≤◌}
use Rattle.std.proofs.Common.{◌∙◌, arith}
use Rattle.disk_model.specs.Call.{Call, look, settle, create, append, seal, rename, remove, length_given, appended_after}
use Rattle.disk_model.specs.View.{DiskView, Done}
use Rattle.disk_model.specs.OnlyReads.{OnlyReads}

-- exactly so many bytes are appended, and so many read at most
pub record Spends (count most : ℕ) (old new : DiskView) : Type 0 where
  pub appended : new.appended ≡ old.appended + count
  pub read_least : old.bytes_read ≤ new.bytes_read
  pub read_most : new.bytes_read ≤ old.bytes_read + most

-- no call so far
pub spends_none : (v : DiskView) → Spends 0 0 v v
spends_none v = record { appended = omega arith; read_least = omega arith; read_most = omega arith }

-- two runs after each other
pub spends_then : (a b r q : ℕ) (old mid new : DiskView) → Spends a r old mid → Spends b q mid new → Spends (a + b) (r + q) old new
spends_then a b r q old mid new first second = record {
  appended = omega (arith, first.appended, second.appended);
  read_least = omega (arith, first.read_least, second.read_least);
  read_most = omega (arith, first.read_most, second.read_most);
}

pub spends_more : (a r q : ℕ) (old new : DiskView) → r ≤ q → Spends a r old new → Spends a q old new
spends_more a r q old new le spends = record { appended = spends.appended; read_least = spends.read_least; read_most = omega (arith, spends.read_most) }

-- calls that only look append nothing
pub spends_looks : (most : ℕ) (old new : DiskView) → OnlyReads most old new → Spends 0 most old new
spends_looks most old new reads_only = record {
  appended = omega (arith, reads_only.appended);
  read_least = reads_only.read_least;
  read_most = reads_only.read_most;
}

pub appended_given : (call : Call) (appended : ℕ) → appended_after call appended ≡ appended + length_given call
appended_given look n = omega arith
appended_given settle n = omega arith
appended_given (create name) n = omega arith
appended_given (append name bytes) n = omega arith
appended_given (seal name) n = omega arith
appended_given (rename from to) n = omega arith
appended_given (remove name) n = omega arith

-- one call that was done
pub spends_call : (call : Call) (old new : DiskView) → Done call old new → Spends (length_given call) 0 old new
spends_call call old new does = record {
  appended = does.appended ∙ appended_given call old.appended;
  read_least = omega (arith, does.bytes_read);
  read_most = omega (arith, does.bytes_read);
}
