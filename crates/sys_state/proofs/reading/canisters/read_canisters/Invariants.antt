use Rattle.std.proofs.Common.{◌≡◌, ◌-◌, ◌≤◌, []}
use Rattle.std.specs.List.{AllByRecursion}
use Rattle.format_spec.specs.Fields.{each}
use Rattle.format_spec.specs.Versions.{state_limit}
use Rattle.state_spec.specs.State.{all_pages}
use Rattle.state_spec.specs.SystemText.{canister_after}
use Rattle.sys_state.specs.System.{IsCanister, parts}
use Rattle.sys_state.proofs.reading.canisters.read_canisters.Given as goal

abbrev pub invariant-loop : goal.invariant-loop
invariant-loop l = record {
  read : each (canister_after l.version) (l.count - l.counter) (parts l.canisters.items) l.reader ≡ each (canister_after l.version) l.count [] l.fn.reader;
  pages : l.pages ≡ all_pages (parts l.canisters.items);
  small : l.pages ≤ state_limit l.version;
  bytes : AllByRecursion IsCanister l.canisters.items;
  births : AllByRecursion (λ c. c.1.birth ≡ l.birth) l.canisters.items;
}
