use Rattle.std.proofs.Common.{◌≡◌, Ok, rules, arith}
use Rattle.state_spec.specs.SystemText.{read_system, system_fields}
use Rattle.sys_state.specs.Reading.{head}
use Rattle.sys_state.specs.System.{part_of, system}
use Rattle.sys_state.proofs.Text.{read_is_system, within_all}
use Rattle.sys_state.proofs.state.decoding.read_state.Goals as goal

pub invariant_of-result : goal.invariant_of-result
unfolding read_system system_fields head
invariant_of-result c =
    let s = system c.in_ok-time.time c.in_ok-canisters.canisters.items c.in_ok-entries.entries.items in
    let read : read_system c.args.version c.args.bytes.now ≡ Ok (part_of s) = search rules in
    let good = read_is_system c.args.version c.args.bytes.now (part_of s) (λ i. omega (arith, c.type_inv.bytes i)) read in
    (record { system = within_all c.args.version (part_of s) good; canisters = c.in_ok-canisters.ensures.bytes; entries = c.in_ok-entries.ensures.bytes }, c.in_ok-canisters.ensures.pages)

pub returns-clause-within : goal.returns-clause-within
unfolding read_system system_fields head
returns-clause-within c =
    let s = system c.in_ok-time.time c.in_ok-canisters.canisters.items c.in_ok-entries.entries.items in
    let read : read_system c.args.version c.args.bytes.now ≡ Ok (part_of s) = search rules in
    read_is_system c.args.version c.args.bytes.now (part_of s) (λ i. omega (arith, c.type_inv.bytes i)) read
