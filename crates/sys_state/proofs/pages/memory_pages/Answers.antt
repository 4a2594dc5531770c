use Rattle.sys_state.proofs.MemoryPages.{pages_more}
use Rattle.sys_state.proofs.pages.memory_pages.Goals as goal

pub loop-i-preserved : goal.loop-i-preserved
loop-i-preserved c =
    pages_more c.args.sys.now.canisters c.loop-i.i c.in-Some.field-0-0.now c.in-Some.canister.now c.loop-i.pages.items c.push.new.self.items c.push-in-loop-i.new.self.items
    c.in-Some.ensures c.in_ok-push.ensures.items c.in_ok-push-2.ensures.items c.loop-i.invariant
