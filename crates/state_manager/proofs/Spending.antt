-- What lines append and read.
use Rattle.std.proofs.Common.{◌≡◌, ◌==◌, ◌≤◌, ◌+◌, ◌*◌, ℕ, true, false, List, length, Option, Some, None, Result, Ok, Err, refl, ◌∙◌, ap, sym, subst, arith}
use Rattle.std.proofs.lemmas.Bool.{false≢true}
use Rattle.std.proofs.lemmas.List.Sums.{sum-map}
use Rattle.std.proofs.lemmas.Map.Views.{exact_unsigned_eq}
use Rattle.std.specs.List.{last_or, sum_by}
use Rattle.std.specs.Option.{is_some, option_map_or}
use Rattle.std.specs.Prelude.{sum}
use Rattle.std.specs.Result.{IfOk, OnOk}
use Rattle.format_spec.specs.declared.limits.TheConstants.{PAGE_SIZE}
use Rattle.state_spec.specs.Files.{memories_in}
use Rattle.state_spec.specs.State.{State, memory_bytes}
use Rattle.sys_state.specs.System.{part_of}
use Rattle.disk_model.specs.Files.{Files}
use Rattle.disk_model.specs.OnlyReads.{OnlyReads}
use Rattle.disk_model.specs.Spending.{Spends, spends_looks, spends_more, spends_none}
use Rattle.disk_model.specs.View.{DiskView}
use Rattle.disk_model.specs.declared.disk.DiskError.{DiskError}
use Rattle.height_store.specs.Opened.{ReadsAtMost}
use Rattle.height_store.specs.Store.{Store, StoredHeight, height_at, heights_in}
use Rattle.height_store.specs.Known.{bytes_at, bytes_of}
use Rattle.script_text.specs.declared.command.Command.{Command}
use Rattle.script_text.specs.declared.command.Command.TheVariants as commands
use Rattle.script_text.specs.declared.command.HeightOrLive.{HeightOrLive}
use Rattle.script_text.specs.declared.command.HeightOrLive.TheVariants.{Height}
use Rattle.script_text.specs.declared.reply.Reply.{Reply}
use Rattle.machine_spec.specs.Costs.{all_bytes, appends, on_disk, pages_told, reads}
use Rattle.machine_spec.specs.LiveSteps.{read_reply}
use Rattle.machine_spec.specs.Machine.{Machine}
use Rattle.sys_state.specs.declared.mem.Mem.{Mem}
use Rattle.format_spec.specs.Bytes.{Bytes}
use Rattle.state_manager.specs.Kept.{ManagerView, KeepsStates, needs_disk, newest_bytes, published_height}
use Rattle.state_manager.proofs.Standing.{knows_some}

-- ---- no call

pub spends_nothing : (count most : ℕ) (view : DiskView) → count ≡ 0 → Spends count most view view
spends_nothing count most view none = subst (λ (n : ℕ). Spends n most view view) (sym none) (spends_more 0 0 most view view (omega arith) (spends_none view))

-- a line that needs no disk appends nothing
pub apart_free : (m : Machine) (command : Command) → needs_disk command ≡ false → appends m command ≡ 0
apart_free m commands.Checkpoint apart = absurd (false≢true (sym apart))
apart_free m _ apart = omega arith

-- ---- bytes of published heights

pub bytes_there : (held : ManagerView) (m : Machine) → KeepsStates held m → (at : HeightOrLive) (h : StoredHeight) → Some h ≡ published_height held at → bytes_of h ≡ option_map_or all_bytes (on_disk m at) 0
bytes_there held m k at h e =
    let p = knows_some held m k at h e in
    sym (sum-map (λ (f : Bytes × ℕ). f.1 * PAGE_SIZE) (memories_in (part_of h.system)))
    ∙ ap sum (sym p.related.sizes)
    ∙ sum-map (λ (bytes : Bytes). length bytes) (memory_bytes p.published.state)
    ∙ ap (λ (o : Option State). option_map_or all_bytes o 0) (sym p.on_disk)

pub bytes_found : (held : ManagerView) (m : Machine) → KeepsStates held m → (height : ℕ) → is_some (height_at held.store.heights height) ≡ true → bytes_at held.store.heights height ≡ option_map_or all_bytes (on_disk m (Height height)) 0
bytes_found held m k height there = by (height_at held.store.heights height) refl there
  where
    by : (o : Option StoredHeight) → height_at held.store.heights height ≡ o → is_some o ≡ true → bytes_at held.store.heights height ≡ option_map_or all_bytes (on_disk m (Height height)) 0
    by None found there = absurd (false≢true there)
    by (Some h) found there = ap (λ (o : Option StoredHeight). option_map_or bytes_of o 0) found ∙ bytes_there held m k (Height height) h (sym found)

pub newest_there : (hs : List StoredHeight) (height : ℕ) → option_map_or (λ newest. newest == height) (last_or None (heights_in hs)) false ≡ true → newest_bytes hs ≡ bytes_at hs height
newest_there hs height last = by (last_or None (heights_in hs)) last
  where
    by : (o : Option ℕ) → option_map_or (λ newest. newest == height) o false ≡ true → option_map_or (bytes_at hs) o 0 ≡ bytes_at hs height
    by None e = absurd (false≢true e)
    by (Some n) e = ap (bytes_at hs) (exact_unsigned_eq n height e)

-- opening reads those of the newest height behind what the store reads
pub reads_more : (files : Files) (store : Store) (before mid now more : ℕ) → ReadsAtMost files store before mid → now ≤ mid + more → ReadsAtMost files store (before + more) now
reads_more files store before mid now more reads last = record { pages = reads.pages; once = reads.once; kept = reads.kept; most = omega (arith, reads.most, last) }

-- ---- lines that read

pub read_spends : (m : Machine) (at : HeightOrLive) (s : State) → on_disk m at ≡ Some s → (id : Bytes) (mem : Mem) (offset len : ℕ) (before after : DiskView) (result : Result Reply DiskError)
    → IfOk result (λ reply. OnlyReads (PAGE_SIZE * pages_told reply offset len) before after) → IfOk result (λ reply. reply ≡ read_reply s id mem offset len)
    → OnOk result (Spends 0 (reads m (commands.Read at id mem offset len)) before after)
read_spends m at s there id mem offset len before after (Err e) reads_only is = tt
read_spends m at s there id mem offset len before after (Ok reply) reads_only is =
    subst (λ (o : Option State). Spends 0 (option_map_or (λ (t : State). PAGE_SIZE * pages_told (read_reply t id mem offset len) offset len) o 0) before after) (sym there)
    (spends_looks _ before after (subst (λ (r : Reply). OnlyReads (PAGE_SIZE * pages_told r offset len) before after) is reads_only))
