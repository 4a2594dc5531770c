use Rattle.std.proofs.Common.{refl, ap, ◌∙◌}
use Rattle.std.specs.Prelude.{is_some}
use Rattle.disk_model.specs.declared.name.Name.TheVariants as name
use Rattle.disk_model.specs.State.{DiskState}
use Rattle.machine_spec.proofs.DiskHeights.{standing_heights}
use Rattle.state_manager.proofs.DiskLines.{reads_only_behind, opens_keeping}
use Rattle.state_manager.proofs.Spending.{reads_more}
use Rattle.state_manager.proofs.manager.Manager.open.Goals as goal

pub returns-in_err-live-clause-images : goal.returns-in_err-live-clause-images
returns-in_err-live-clause-images g c = λ told each. reads_only_behind _ _ _ _ _ (c.open.ensures.images told each) (c.begin.ensures.reads_only told)

pub returns-clause-images : goal.returns-clause-images
returns-clause-images g c = λ told each. reads_only_behind _ _ _ _ _ (c.open.ensures.images told each) (c.begin.ensures.reads_only told)

pub returns-clause-usable : goal.returns-clause-usable
returns-clause-usable g c = (refl, c.in_ok-store.ensures.next.0)

pub returns-clause-kept : goal.returns-clause-kept
returns-clause-kept g c = λ told ps each stands.
    let reads_only = (c.begin.ensures.reads_only told) in
    opens_keeping _ (g.D.Disk.view c.open.new.disk).state _ ps reads_only.state (g.met.D.Disk.reads_as_image c.begin.new.disk told) refl c.new.ensures.items (c.in_ok-store.ensures.over told) (c.in_ok-store.ensures.settled told) (c.in_ok-store.ensures.stands told ps each stands)
    (g.met.D.Disk.reads_as_image c.open.new.disk told) (λ shown. c.in_ok-live.ensures.state told ps shown) (standing_heights (g.D.Disk.view c.args.disk.now).state.files ps (g.met.D.Disk.holds_bytes c.args.disk.now told).files stands)

pub returns-in_err-live-clause-marks : goal.returns-in_err-live-clause-marks
returns-in_err-live-clause-marks g c = λ told n. ap (λ (s : DiskState). s.files (name.Mark n)) (c.begin.ensures.reads_only told).state ∙ c.open.ensures.marks told n

pub returns-clause-marks : goal.returns-clause-marks
returns-clause-marks g c = λ told n. ap (λ (s : DiskState). s.files (name.Mark n)) (c.begin.ensures.reads_only told).state ∙ c.open.ensures.marks told n

pub returns-clause-needed : goal.returns-clause-needed
returns-clause-needed g c = λ told q there. ap (λ (s : DiskState). s.files q) (c.begin.ensures.reads_only told).state ∙ c.in_ok-store.ensures.kept told q there

pub returns-clause-read : goal.returns-clause-read
returns-clause-read g c = λ told. reads_more _ _ _ _ _ _ (c.in_ok-store.ensures.read told) (c.begin.ensures.reads_only told).read_most

pub returns-clause-pages : goal.returns-clause-pages
returns-clause-pages g c = λ told n. ap (λ (s : DiskState). is_some (s.files (name.Page n))) (c.begin.ensures.reads_only told).state ∙ c.in_ok-store.ensures.pages told n

pub returns-clause-no_stage : goal.returns-clause-no_stage
returns-clause-no_stage g c = λ told n. ap (λ (s : DiskState). s.files (name.Stage n)) (c.begin.ensures.reads_only told).state ∙ c.in_ok-store.ensures.no_stage told n

pub returns-in_err-live-clause-appended : goal.returns-in_err-live-clause-appended
returns-in_err-live-clause-appended g c = λ told. (c.begin.ensures.reads_only told).appended ∙ c.open.ensures.appended told

pub returns-clause-appended : goal.returns-clause-appended
returns-clause-appended g c = λ told. (c.begin.ensures.reads_only told).appended ∙ c.open.ensures.appended told
