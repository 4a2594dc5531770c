-- Which bytes are the fields of a mark of a height.
use Rattle.std.proofs.Common.{◌≡◌, ℕ, ◌^◌, ◌<◌, ◌≤◌, true, false, List, [], ◌++◌, length, map, codes, Result, Ok, Err, refl, sym, ap, subst, ◌∙◌, append_assoc, append-nil, arith, eq-eqb}
use Rattle.std.specs.Prelude.{◌==◌}
use Rattle.std.specs.List.{flat_map, AllZip}
use Rattle.std.specs.Int.{w32, w64}
use Rattle.std.proofs.lemmas.Bool.{eqb-true}
use Rattle.format_spec.specs.Bytes.{Bytes, IsBytes, be32, be64, same_bytes, parts}
use Rattle.format_spec.specs.Hashes.{chunk_hash}
use Rattle.format_spec.specs.Versions.{is_version}
use Rattle.format_spec.specs.Fields.{Cursor, Reading, gives, ◌>>=◌, field, number, string32, any, magic, each}
use Rattle.format_spec.specs.declared.limits.TheConstants.{CHUNK_SIZE, MAX_HEIGHT}
use Rattle.format_spec.proofs.ByteStrings.{cut_bytes}
use Rattle.format_spec.proofs.Forms.{number_law, wide32, wide64, string32_law}
use Rattle.format_spec.proofs.Readings.{Took, cursor, ok_is, IsReading, field_law, skip_law, then_law, gives_law, reading_when, magic_law, same_bytes_is, bytes_same}
use Rattle.state_spec.specs.State.{SystemPart, IsSystem}
use Rattle.state_spec.specs.SystemText.{system_text, read_system}
use Rattle.state_spec.specs.Files.{memories_in}
use Rattle.state_spec.proofs.BothWays.{system_found, system_again}
use Rattle.state_spec.proofs.SystemSizes.{system_size}
use Rattle.state_spec.proofs.VersionCases.{version_low}
use Rattle.store_spec.specs.Mark.{Mark, MarkMemory, mark_body, mark_memory_text, hashes_text, FitsMemory, IsMark}
use Rattle.byte_codec.specs.declared.error.FieldError.{FieldError}
use Rattle.byte_codec.specs.declared.error.FieldError.TheVariants as errors
use Rattle.mark_file.specs.Stops.{stop_of}
use Rattle.byte_codec.specs.Gives.{Fails}
use Rattle.mark_file.specs.Reading.{head_fields, memory_after}
use Rattle.mark_file.specs.Spells.{IsBody, SpellsBody, Reads, root_from}
use Rattle.mark_file.proofs.MemoryLaws.{memories_law}

-- ---- up to the memories

abbrev head_text : ℕ → ℕ × Bytes → Bytes
head_text height (version, system) = codes "ICMK" ++ (be32 version ++ (be64 height ++ (be32 (length system) ++ system)))

abbrev read_end : ℕ → Bytes → Reading (ℕ × Bytes)
read_end version system = gives (version, system)

abbrev read_text : ℕ → ℕ → Reading (ℕ × Bytes)
read_text version height = field string32 any >>= read_end version

abbrev read_height : ℕ → ℕ → Reading (ℕ × Bytes)
read_height height version = field (number w64) (λ n. n == height) >>= read_text version

abbrev read_version : ℕ → Bytes → Reading (ℕ × Bytes)
read_version height name = field (number w32) is_version >>= read_height height

height_law : (height : ℕ) → height < 2 ^ 64 → IsReading (field (number w64) (λ n. n == height)) be64 (λ n. n ≡ height)
height_law height small = reading_when (field (number w64) (λ n. n == height)) be64 be64 (λ n. (n < 2 ^ 64) × ((n == height) ≡ true)) (λ n. n ≡ height) (λ n. refl)
    (λ n h. eqb-true n height h.1) (λ n h. (rw h small, eq-eqb n height h))
    (field_law (number w64) be64 (λ n. n < 2 ^ 64) (λ n. n == height) (number_law w64 (2 ^ 64) wide64))

abbrev ShortText : Bytes → Type 0
ShortText s = (length s < 2 ^ 32) × (any s ≡ true)

abbrev Behind : ℕ → ℕ × Bytes → Type 0
Behind version h = (h.0 ≡ version) × (length h.1 < 2 ^ 32)

end_law : (version : ℕ) (system : Bytes) → IsReading (read_end version system) (λ h. []) (λ h. (h.1 ≡ system) × (h.0 ≡ version))
end_law version system = reading_when (read_end version system) (λ h. []) (λ h. []) (λ h. h ≡ (version, system)) (λ h. (h.1 ≡ system) × (h.0 ≡ version)) (λ h. refl)
    (λ h e. (ap (λ (x : ℕ × Bytes). x.1) e, ap (λ (x : ℕ × Bytes). x.0) e)) (λ h e. λ i. (e.1 i, e.0 i)) (gives_law (version, system))

text_law : (version height : ℕ) → IsReading (read_text version height) (λ h. be32 (length h.1) ++ h.1) (Behind version)
text_law version height = reading_when (read_text version height) (λ h. (be32 (length h.1) ++ h.1) ++ []) (λ h. be32 (length h.1) ++ h.1) (λ h. ShortText h.1 × (h.0 ≡ version)) (Behind version)
    (λ h. append-nil (be32 (length h.1) ++ h.1)) (λ h f. (f.1, f.0.0)) (λ h f. ((f.1, refl), f.0))
    (then_law (field string32 any) (read_end version) (λ h. h.1) (λ s. be32 (length s) ++ s) ShortText (λ h. []) (λ h. h.0 ≡ version)
    (field_law string32 (λ s. be32 (length s) ++ s) (λ s. length s < 2 ^ 32) any string32_law) (end_law version))

abbrev VersionFits : ℕ → Type 0
VersionFits v = (v < 2 ^ 32) × (is_version v ≡ true)

abbrev pub HeadFits : ℕ × Bytes → Type 0
HeadFits h = (is_version h.0 ≡ true) × (length h.1 < 2 ^ 32)

head_law : (height : ℕ) → height < 2 ^ 64 → IsReading (head_fields height) (head_text height) HeadFits
unfolding head_fields
head_law height small =
    reading_when (head_fields height) (head_text height) (head_text height) (λ h. VersionFits h.0 × (length h.1 < 2 ^ 32)) HeadFits (λ h. refl)
    (λ h f. (f.0.1, f.1)) (λ h f. ((omega (arith, (version_low h.0 f.0).1), f.0), f.1))
    (skip_law (magic (codes "ICMK")) (read_version height) (codes "ICMK") (λ s. s) (λ h. be32 h.0 ++ (be64 height ++ (be32 (length h.1) ++ h.1))) (λ h. VersionFits h.0 × (length h.1 < 2 ^ 32)) (magic_law (codes "ICMK"))
    (then_law (field (number w32) is_version) (read_height height) (λ h. h.0) be32 VersionFits (λ h. be64 height ++ (be32 (length h.1) ++ h.1)) (λ h. length h.1 < 2 ^ 32)
    (field_law (number w32) be32 (λ n. n < 2 ^ 32) is_version (number_law w32 (2 ^ 32) wide32))
    (λ version. skip_law (field (number w64) (λ n. n == height)) (read_text version) height be64 (λ h. be32 (length h.1) ++ h.1) (Behind version) (height_law height small) (text_law version height))))

-- ---- the whole

abbrev memories_text : ℕ → Mark → Bytes
memories_text version m = flat_map (mark_memory_text version) m.memories

abbrev end_text : Mark → Bytes
end_text m = hashes_text m.system_sums ++ m.root

eight : (a b c d e f g h : Bytes) → ((((((a ++ b) ++ c) ++ d) ++ e) ++ f) ++ g) ++ h ≡ (a ++ (b ++ (c ++ (d ++ e)))) ++ (f ++ (g ++ h))
eight a b c d e f g h = simp append_assoc

in_parts : (m : Mark) (height : ℕ) → m.height ≡ height → mark_body m ≡ head_text height (m.version, m.system) ++ (memories_text m.version m ++ end_text m)
in_parts m height of_height =
    eight (codes "ICMK") (be32 m.version) (be64 m.height) (be32 (length m.system)) m.system (memories_text m.version m) (hashes_text m.system_sums) m.root
    ∙ ap (λ (h : ℕ). head_text h (m.version, m.system) ++ (memories_text m.version m ++ end_text m)) of_height

abbrev pub pages_of : SystemPart → List ℕ
pages_of s = map (λ (f : Bytes × ℕ). f.1) (memories_in s)

abbrev pub read_memories : ℕ → List ℕ → Reading (List MarkMemory)
read_memories version pages = each (memory_after version pages) (length pages) []

-- ---- where reading stopped, though each mark of the height would have been read on

pub refused : {X Y : Type 0} (Q : Y → Type 0) (P : Mark → Type 0) (e : FieldError) (r : Result X ℕ) → Fails e r → ((m : Mark) → P m → (x : X) × (r ≡ Ok x)) → Reads Q P (Err (stop_of e))
refused Q P errors.Memory r failed must = tt
refused Q P (errors.Bad place) r failed must = λ m p. let x = must m p in absurd (let none = sym x.1 ∙ failed in cc)

module _ (height : ℕ) (body : Bytes) (fits : height ≤ MAX_HEIGHT) (start : Cursor) (at_front : start ≡ cursor 0 body) where
  small : height < 2 ^ 64
  small = let le : height ≤ MAX_HEIGHT = fits in omega (arith, le)

  system_small : (m : Mark) (s : SystemPart) → IsMark m s → length m.system < 2 ^ 32
  system_small m s g = omega (arith, ap (λ (k : Bytes). length k) g.system_spelled, (system_size m.version s g.system_good).1)

  head_known : (m : Mark) (s : SystemPart) → IsBody height body m s → (end : ℕ) × (head_fields height start ≡ Ok ((m.version, m.system), cursor end (memories_text m.version m ++ end_text m)))
  head_known m s b =
      let parts : body ≡ head_text height (m.version, m.system) ++ (memories_text m.version m ++ end_text m) = b.spelled ∙ in_parts m height b.of_height in
      let read = (head_law height small).again (m.version, m.system) 0 (memories_text m.version m ++ end_text m) (b.good.version, system_small m s b.good) in
      (read.0, ap (head_fields height) (at_front ∙ ap (cursor 0) parts) ∙ read.1)

  pub head_must : (m : Mark) → SpellsBody height body m → (x : (ℕ × Bytes) × Cursor) × (head_fields height start ≡ Ok x)
  head_must m b = let known = head_known m b.0 b.1 in (((m.version, m.system), cursor known.0 (memories_text m.version m ++ end_text m)), known.1)

  module _ (version : ℕ) (system : Bytes) (behind : Cursor) (head : head_fields height start ≡ Ok ((version, system), behind)) where
    head_same : (m : Mark) (s : SystemPart) → IsBody height body m s → (version ≡ m.version) × (system ≡ m.system) × (behind.rest ≡ memories_text m.version m ++ end_text m)
    head_same m s b =
        let known = head_known m s b in
        let same = ok_is ((version, system), behind) ((m.version, m.system), cursor known.0 (memories_text m.version m ++ end_text m)) (sym head ∙ known.1) in
        (ap (λ (x : (ℕ × Bytes) × Cursor). x.0.0) same, ap (λ (x : (ℕ × Bytes) × Cursor). x.0.1) same, ap (λ (x : (ℕ × Bytes) × Cursor). x.1.rest) same)

    system_known : (m : Mark) (s : SystemPart) → IsBody height body m s → read_system version system ≡ Ok s
    system_known m s b =
        let same = head_same m s b in
        ap (read_system version) (same.1 ∙ b.good.system_spelled) ∙ system_again version s (subst (λ (v : ℕ). IsSystem v s) (sym same.0) b.good.system_good)

    pub system_must : (m : Mark) → SpellsBody height body m → (s : SystemPart) × (read_system version system ≡ Ok s)
    system_must m b = (b.0, system_known m b.0 b.1)

    took_head : IsBytes body → Took start (head_text height (version, system)) behind × HeadFits (version, system)
    took_head bytes = (head_law height small).takes start (version, system) behind (subst (λ (c : Cursor). IsBytes c.rest) (sym at_front) bytes) head

    system_bytes : IsBytes body → IsBytes system
    system_bytes bytes =
        let t = took_head bytes in
        let all : IsBytes (head_text height (version, system) ++ behind.rest) = subst IsBytes (sym (ap (λ (c : Cursor). c.rest) at_front) ∙ t.0.parts) bytes in
        let front = (cut_bytes (head_text height (version, system)) behind.rest all).0 in
        let one = (cut_bytes (codes "ICMK") (be32 version ++ (be64 height ++ (be32 (length system) ++ system))) front).1 in
        let two = (cut_bytes (be32 version) (be64 height ++ (be32 (length system) ++ system)) one).1 in
        let three = (cut_bytes (be64 height) (be32 (length system) ++ system) two).1 in
        (cut_bytes (be32 (length system)) system three).1

    module _ (part : SystemPart) (parsed : read_system version system ≡ Ok part) where
      pub system_is : IsBytes body → (system ≡ system_text part) × IsSystem version part
      system_is bytes = system_found version system part (system_bytes bytes) parsed

      part_same : (m : Mark) (s : SystemPart) → IsBody height body m s → part ≡ s
      part_same m s b = ok_is part s (sym parsed ∙ system_known m s b)

      module _ (is : is_version version ≡ true) (pages : List ℕ) (pages_are : pages ≡ pages_of part) where
        memories_known : (m : Mark) (s : SystemPart) → IsBody height body m s → (end : ℕ) × (read_memories version pages behind ≡ Ok (m.memories, cursor end (end_text m)))
        memories_known m s b =
            let same = head_same m s b in
            let here = part_same m s b in
            let good : AllZip (FitsMemory version) m.memories (memories_in part) =
            subst (λ (v : ℕ). AllZip (FitsMemory v) m.memories (memories_in part)) (sym same.0) (subst (λ (x : SystemPart). AllZip (FitsMemory m.version) m.memories (memories_in x)) (sym here) b.good.memories_fit) in
            let read = (memories_law version is (memories_in part)).again m.memories behind.at (end_text m) good in
            let place : behind ≡ cursor behind.at (memories_text version m ++ end_text m) = ap (cursor behind.at) (same.2 ∙ ap (λ (v : ℕ). memories_text v m ++ end_text m) (sym same.0)) in
            (read.0, ap (λ (p : List ℕ). read_memories version p behind) pages_are ∙ ap (read_memories version (pages_of part)) place ∙ read.1)

        pub memories_must : (m : Mark) → SpellsBody height body m → (x : List MarkMemory × Cursor) × (read_memories version pages behind ≡ Ok x)
        memories_must m b = let known = memories_known m b.0 b.1 in ((m.memories, cursor known.0 (end_text m)), known.1)

        module _ (mems : List MarkMemory) (last : Cursor) (read : read_memories version pages behind ≡ Ok (mems, last)) where
          memories_same : (m : Mark) (s : SystemPart) → IsBody height body m s → (mems ≡ m.memories) × (last.rest ≡ end_text m)
          memories_same m s b =
              let known = memories_known m s b in
              let same = ok_is (mems, last) (m.memories, cursor known.0 (end_text m)) (sym read ∙ known.1) in
              (ap (λ (x : List MarkMemory × Cursor). x.0) same, ap (λ (x : List MarkMemory × Cursor). x.1.rest) same)

          took_memories : IsBytes body → Took behind (flat_map (mark_memory_text version) mems) last × AllZip (FitsMemory version) mems (memories_in part)
          took_memories bytes =
              (memories_law version is (memories_in part)).takes behind mems last (took_head bytes).0.rest_fits (ap (λ (p : List ℕ). read_memories version p behind) (sym pages_are) ∙ read)

          pub memories_fit : IsBytes body → AllZip (FitsMemory version) mems (memories_in part)
          memories_fit bytes = (took_memories bytes).1

          module _ (rest end : Bytes) (sums : List Bytes) (root : Bytes) (rest_is : rest ≡ last.rest) (end_is : end ≡ hashes_text sums ++ root) (sums_are : sums ≡ map chunk_hash (parts CHUNK_SIZE system)) (root_is : root ≡ root_from version part mems) where
            root_same : (m : Mark) (s : SystemPart) → IsBody height body m s → root ≡ m.root
            root_same m s b =
                root_is ∙ (λ i. root_from ((head_same m s b).0 i) (part_same m s b i) ((memories_same m s b).0 i)) ∙ sym b.good.root

            -- another end
            pub ends_differ : same_bytes rest end ≡ false → (m : Mark) → SpellsBody height body m → ⊥
            ends_differ differ m b =
                let s = b.0 in
                let sums_same : sums ≡ m.system_sums = sums_are ∙ ap (λ (x : Bytes). map chunk_hash (parts CHUNK_SIZE x)) (head_same m s b.1).1 ∙ sym b.1.good.system_sums in
                let same : rest ≡ end = rest_is ∙ (memories_same m s b.1).1 ∙ (λ i. hashes_text (sym sums_same i) ++ sym (root_same m s b.1) i) ∙ sym end_is in
                let equal : same_bytes rest end ≡ true = ap (λ (x : Bytes). same_bytes x end) same ∙ bytes_same end in
                absurd (let no_way = sym equal ∙ differ in cc)

            -- the same end
            pub ends_agree : IsBytes body → 1 ≤ height → same_bytes rest end ≡ true → IsBody height body (record { height = height; version = version; system = system; memories = mems; system_sums = sums; root = root }) part
            ends_agree bytes from_one agree =
                let mark : Mark = record { height = height; version = version; system = system; memories = mems; system_sums = sums; root = root } in
                let h = took_head bytes in
                let t = took_memories bytes in
                let text = system_is bytes in
                let last_is : last.rest ≡ hashes_text sums ++ root = sym rest_is ∙ same_bytes_is rest end agree ∙ end_is in
                let spelled : body ≡ mark_body mark =
                sym (ap (λ (c : Cursor). c.rest) at_front) ∙ h.0.parts
                ∙ ap (λ (r : Bytes). head_text height (version, system) ++ r) (t.0.parts ∙ ap (λ (r : Bytes). flat_map (mark_memory_text version) mems ++ r) last_is)
                ∙ sym (in_parts mark height refl) in
                record {
                  spelled = spelled;
                  good = record {
                    version = is;
                    from_one = from_one;
                    height_fits = fits;
                    system_good = text.1;
                    system_spelled = text.0;
                    memories_fit = t.1;
                    system_sums = sums_are;
                    root = root_is;
                  };
                  of_height = refl;
                }
