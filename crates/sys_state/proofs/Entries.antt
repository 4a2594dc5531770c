-- A state within the limits, after a change of one entry.
use Rattle.std.proofs.Common.{◌≡◌, ℕ, ◌<◌, ◌≤◌, true, false, List, length, get_or, set, refl, ap, None}
use Rattle.std.specs.List.{AllByRecursion, insert, remove}
use Rattle.format_spec.specs.Bytes.{Bytes, IsBytes, path_cmp}
use Rattle.format_spec.specs.declared.limits.TheConstants.{MAX_ENTRIES, MAX_VALUE}
use Rattle.state_spec.specs.State.{AreEntries, is_path, is_reserved, has_conflict}
use Rattle.state_spec.specs.Places.{Stands, IsAbsent}
use Rattle.state_spec.proofs.Entries as entries
use Rattle.state_spec.proofs.Entries.{no_conflict}
use Rattle.state_spec.proofs.Paths.{Entry}
use Rattle.sys_state.specs.Calls.{put_refusal, with_entry, without_entry}
use Rattle.sys_state.specs.System.{System, IsWithinLimits}

module _ (s : System) (kept : IsWithinLimits s) where
  pub entries_of : AreEntries s.entries
  entries_of = record {
    few = kept.system.few_entries;
    paths_ascend = kept.system.paths_ascend;
    paths_apart = kept.system.paths_apart;
    fit = kept.system.entries_fit;
    bytes = kept.entries;
  }

  kept_with : (es : List Entry) → AreEntries es → IsWithinLimits (record s { entries = es })
  kept_with es are = record {
    system = record {
      time = kept.system.time;
      few_canisters = kept.system.few_canisters;
      ids_ascend = kept.system.ids_ascend;
      canisters_fit = kept.system.canisters_fit;
      pages_fit = kept.system.pages_fit;
      few_entries = are.few;
      paths_ascend = are.paths_ascend;
      paths_apart = are.paths_apart;
      entries_fit = are.fit;
    };
    canisters = kept.canisters;
    entries = are.bytes;
  }

  -- these entries in place of the others
  module _ (now new : List Entry) (change : AreEntries now × (now ≡ new)) where
    changed : IsWithinLimits (record s { entries = now }) × (record s { entries = now } ≡ record s { entries = new })
    changed = (kept_with now change.0, ap (λ (es : List Entry). record s { entries = es }) change.1)

  module _ (path : List Bytes) (i : ℕ) where
    module _ (at : Stands path_cmp path s.entries i) where
      pub nothing_refused : is_reserved path ≡ false → put_refusal s path ≡ None
      nothing_refused free_label = rw (free_label, no_conflict s.entries entries_of path i at, at.found) refl

      pub value_put : (value : Bytes) (x : Entry) → x ≡ get_or s.entries i x → IsBytes value → length value ≤ MAX_VALUE
          → IsWithinLimits (record s { entries = set s.entries i (x.0, value) }) × (record s { entries = set s.entries i (x.0, value) } ≡ with_entry s path value)
      value_put value x read bytes small = changed _ _ (entries.value_put s.entries entries_of path i at value x read bytes small)

      pub entry_deleted : IsWithinLimits (record s { entries = remove s.entries i }) × (record s { entries = remove s.entries i } ≡ without_entry s path)
      entry_deleted = changed _ _ (entries.entry_deleted s.entries entries_of path i at)

    module _ (a : IsAbsent path_cmp path s.entries i) where
      pub entry_put : (value : Bytes) → has_conflict s.entries path ≡ false → is_path path ≡ true → AllByRecursion IsBytes path → is_reserved path ≡ false → IsBytes value → length value ≤ MAX_VALUE → length s.entries < MAX_ENTRIES
          → IsWithinLimits (record s { entries = insert s.entries i (path, value) }) × (record s { entries = insert s.entries i (path, value) } ≡ with_entry s path value)
      entry_put value none is_one labels free bytes small room = changed _ _ (entries.entry_put s.entries entries_of path i a value none is_one labels free bytes small room)
