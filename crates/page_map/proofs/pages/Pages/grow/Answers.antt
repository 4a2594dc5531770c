use Rattle.std.proofs.Common.{◌≡◌, ◌+◌, ◌*◌, ◌++◌, subst, sym}
use Rattle.format_spec.specs.declared.limits.TheConstants.{PAGE_SIZE}
use Rattle.state_spec.specs.Memory.{zeros}
use Rattle.page_map.specs.Maps.{Map}
use Rattle.page_map.specs.Reads.{IsLive, bytes_of}
use Rattle.page_map.proofs.Written.{grown_live, grown_bytes}
use Rattle.page_map.proofs.pages.Pages.grow.Goals as goal

pub returns-clause-live : goal.returns-clause-live
returns-clause-live c = subst (λ (m : Map). IsLive c.args.self.now (record m { length = m.length + c.args.pages })) (sym c.map.view_is) (grown_live c.args.self.now c.args.map.now c.args.pages c.requires.live c.requires.few)

pub returns-clause-bytes : goal.returns-clause-bytes
returns-clause-bytes c = λ files layers are.
    subst (λ (m : Map). bytes_of layers c.args.self.now (record m { length = m.length + c.args.pages }) ≡ bytes_of layers c.args.self.now c.args.map.now ++ zeros (c.args.pages * PAGE_SIZE)) (sym c.map.view_is)
    (grown_bytes c.args.self.now c.args.map.now c.args.pages c.requires.live files layers are)
