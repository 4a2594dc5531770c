-- The system text and the meta-manifest, both ways, for proofs above.
use Rattle.std.proofs.Common.{◌≡◌, ℕ, Ok, Some}
use Rattle.format_spec.specs.Bytes.{Bytes, IsBytes}
use Rattle.format_spec.proofs.Readings.{whole_again, whole_takes}
use Rattle.state_spec.specs.State.{SystemPart, IsSystem}
use Rattle.state_spec.specs.SystemText.{system_text, system_fields, read_system}
use Rattle.state_spec.specs.Root.{MetaManifest, IsMeta, meta_text, read_meta}
use Rattle.state_spec.proofs.SystemWhole.{SystemFits, system_law}
use Rattle.state_spec.proofs.SystemGood.{fits_good, good_fits}
use Rattle.state_spec.proofs.MetaReading.{meta_found, meta_only}

pub system_found : (version : ℕ) (text : Bytes) (s : SystemPart) → IsBytes text → read_system version text ≡ Ok s → (text ≡ system_text s) × IsSystem version s
unfolding read_system
system_found version text s bytes e =
    let t = whole_takes (system_fields version) system_text (SystemFits version) (system_law version) text s bytes e in
    (t.0, fits_good version s t.1)

pub system_again : (version : ℕ) (s : SystemPart) → IsSystem version s → read_system version (system_text s) ≡ Ok s
unfolding read_system
system_again version s good = whole_again (system_fields version) system_text (SystemFits version) (system_law version) s (good_fits version s good)

pub meta_is : (text : Bytes) (m : MetaManifest) → IsBytes text → read_meta text ≡ Some m → (text ≡ meta_text m) × IsMeta m
unfolding read_meta
meta_is text m bytes e = meta_found text m bytes e

pub meta_again : (m : MetaManifest) → IsMeta m → read_meta (meta_text m) ≡ Some m
unfolding read_meta
meta_again m good = meta_only m good
