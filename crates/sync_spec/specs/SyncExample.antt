-- A sync of the worked examples: what its peers send, and what it tells.
use Rattle.std.specs.Prelude.{ℕ, zero, suc, codes, true, false, List, [], ◌∷◌, replicate, Option, Some, None}
use Rattle.format_spec.specs.Bytes.{Bytes}
use Rattle.format_spec.specs.Hashes.{piece_hash}
use Rattle.state_spec.specs.State.{State, system_of}
use Rattle.state_spec.specs.SystemText.{system_text}
use Rattle.state_spec.specs.Manifest.{manifest_of}
use Rattle.state_spec.specs.Root.{MetaManifest, meta_text, root_of_meta}
use Rattle.state_spec.specs.Example.{zero_page, from_hex}
use Rattle.sync_spec.specs.Messages.{Item, meta, piece, chunk, Ask, Content, here, ask_text, answer_text}
use Rattle.sync_spec.specs.Events.{Events, Asked, came, nothing}
use Rattle.sync_spec.specs.Sync.{Sync, Told, Heights, at_system, sync_to, sync_step}

-- what is told step by step, up to where the sync ends
abbrev pub told_by_steps : Heights → Option Sync → List Events → List Told
told_by_steps heights None es = []
told_by_steps heights (Some s) [] = []
told_by_steps heights (Some s) (e ∷ es) = (sync_step heights s e).told ∷ told_by_steps heights (sync_step heights s e).after es

abbrev pub sync_after_steps : Heights → Option Sync → List Events → Option Sync
sync_after_steps heights None es = None
sync_after_steps heights (Some s) [] = Some s
sync_after_steps heights (Some s) (e ∷ es) = sync_after_steps heights (sync_step heights s e).after es

-- a state of nothing
abbrev pub empty_state : State
empty_state = record { version = 1; time = 0; canisters = []; entries = [] }

-- ---- messages

abbrev pub ask_at : ℕ → Bytes → Item → Ask
ask_at height root item = record { height = height; root = root; item = item }

-- an ask that went out
abbrev pub sent_ask : ℕ → Bytes → ℕ → Item → Asked
sent_ask height root peer item = record { peer = peer; ask = ask_text (ask_at height root item); went_out = true }

abbrev pub failed_ask : ℕ → Bytes → ℕ → Item → Asked
failed_ask height root peer item = record { peer = peer; ask = ask_text (ask_at height root item); went_out = false }

-- a turn with these asks in which an answer comes
abbrev pub answer_turn : ℕ → Bytes → List Asked → ℕ → Item → Content → Events
answer_turn height root asked peer item content = record {
  asked = asked;
  given = came peer (answer_text (record { ask = ask_at height root item; content = content })) ∷ [];
}

-- a turn with these asks in which nothing comes
abbrev pub silence : List Asked → Events
silence asked = record { asked = asked; given = nothing ∷ [] }

abbrev pub without_events : ℕ → List Events
without_events n = replicate n (record { asked = []; given = [] })

-- ---- the state with one page that begins with the byte 1, from two peers: its root hash and its items

abbrev pub target : Bytes
target = from_hex (codes "00d20df6c93dbc5257167f2f6dee380e2b050f12d93f87910c02adf4db8eb778")

abbrev pub target_item : Item → Bytes
target_item meta = from_hex (codes "0000000100000001e28b8f8e0636b2f4626b629f97d826b3556ae711a8fff36853e889df25d5ac08")
target_item (piece i) = from_hex (codes "49434d4600000001000000031063616e69737465722f30302f686561700000000000001000180dc7818b706a6b31ce23ccecfc3adffb81273314009495da3fd11e0a9c67b21263616e69737465722f30302f737461626c650000000000000000981305d7c0b2ace0f53fe822f4075278fa28511e8c34e70f37fd8425af659b360673797374656d0000000000000024bc28f60a4918c0209347c5b62b5126034c199ed8cb3f025d0a32f2487a6b35500000000200000000000010000000000000000000beedb2d1fe14d2a1f2a55ea7b1430bc260ce57831e5309b336f370db1bbb1af2000000020000002400000000000000009d635b144968103bac92fba2f13725393b48f45b945a53c45e01239cfa5c1209")
target_item (chunk zero) = 1 ∷ replicate 4095 0
target_item (chunk (suc i)) = from_hex (codes "494353590000000100000000000000000000000101000000000000010000000000000000")

abbrev pub two_peers : ℕ → Sync
two_peers height = sync_to height target 2

-- its item, from a peer, behind these asks
abbrev pub item_comes : ℕ → List Asked → ℕ → Item → Events
item_comes height asked peer item = answer_turn height target asked peer item (here (target_item item))

abbrev pub changed_bytes : Bytes → Bytes
changed_bytes [] = []
changed_bytes (b ∷ bs) = suc b ∷ bs

-- a message that is no answer; the meta-manifest; a changed piece, the piece, and the piece again; two chunks
abbrev pub seven_turns : ℕ → List Events
seven_turns height =
    record { asked = sent_ask height target 0 meta ∷ []; given = came 0 (7 ∷ []) ∷ [] }
    ∷ item_comes height [] 0 meta
    ∷ answer_turn height target (sent_ask height target 0 (piece 0) ∷ []) 1 (piece 0) (here (changed_bytes (target_item (piece 0))))
    ∷ item_comes height [] 0 (piece 0)
    ∷ item_comes height (sent_ask height target 0 (chunk 0) ∷ sent_ask height target 0 (chunk 1) ∷ []) 0 (piece 0)
    ∷ item_comes height [] 1 (chunk 0)
    ∷ item_comes height [] 0 (chunk 1)
    ∷ []

-- the meta-manifest and the piece, where all chunks are published already
abbrev pub two_turns : ℕ → List Events
two_turns height =
    item_comes height (sent_ask height target 0 meta ∷ []) 0 meta
    ∷ item_comes height (sent_ask height target 0 (piece 0) ∷ []) 0 (piece 0)
    ∷ []

-- ---- in version 2 the state with a page of zeros, of which the system text is had

abbrev pub zeros_had : Sync
zeros_had = record (two_peers 1) { stage = at_system (manifest_of zero_page); had = (chunk 0, system_text (system_of zero_page)) ∷ [] }

-- ---- a meta-manifest with one piece, the byte 78, which is no manifest

abbrev pub bad_meta : MetaManifest
bad_meta = record { version = 1; pieces = piece_hash (0x78 ∷ []) ∷ [] }

abbrev pub bad_root : Bytes
bad_root = root_of_meta bad_meta

abbrev pub bad_turns : List Events
bad_turns =
    answer_turn 1 bad_root (sent_ask 1 bad_root 0 meta ∷ []) 0 meta (here (meta_text bad_meta))
    ∷ answer_turn 1 bad_root (sent_ask 1 bad_root 0 (piece 0) ∷ []) 0 (piece 0) (here (0x78 ∷ []))
    ∷ []
