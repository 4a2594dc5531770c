-- What the manager needs from line to line.
use Rattle.std.specs.Prelude.{◌≡◌, Bool, None, IsTrue}
use Rattle.disk_model.specs.View.{DiskView}
use Rattle.height_store.specs.Kept.{MatchesFiles}
use Rattle.state_manager.specs.Kept.{ManagerView}

-- no call stopped so far, and the manager's store is over the files, where the disk tells them
pub record IsUsable (tells : Bool) (held : ManagerView) (view : DiskView) : Type 0 where
  pub open_still : held.stopped ≡ None
  pub over : IsTrue tells → MatchesFiles held.store view.state.files
