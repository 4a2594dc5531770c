use Rattle.std.proofs.Common.{◌≡◌, ◌+◌, ◌-◌, ◌≤◌, ◌<◌, ◌^◌, ◌++◌, map, replicate, vec_len, vec_capacity, None}
use Rattle.page_pool.specs.Chains.{page_of, IsSound}
use Rattle.page_pool.proofs.pool.PagePool.reserve.Given as goal

abbrev pub invariant-loop-bytes : goal.invariant-loop-bytes
invariant-loop-bytes l =
    record {
      seen : map page_of l.self-inside.slots.items ≡ l.fn.self.slots ++ replicate (l.more - vec_len l.pages) None;
      sound : IsSound l.self-inside.slots.items l.self-inside.free (l.self-inside.spare + (l.more - vec_len l.pages));
      spare : l.self-inside.spare ≡ l.fn.self.spare;
      more : l.fn.self.spare + l.more ≡ l.n;
      left : vec_len l.pages ≤ l.more;
      len : vec_len l.self-inside.slots + vec_len l.pages ≡ vec_len l.initial.self-inside.slots + l.more;
      room : vec_len l.initial.self-inside.slots + l.more ≤ vec_capacity l.self-inside.slots;
      small : vec_len l.initial.self-inside.slots + l.more < 2 ^ 32;
    }

abbrev pub decreases-loop-bytes : goal.decreases-loop-bytes
decreases-loop-bytes l = vec_len l.pages
