-- The two passes on three texts, by computing: in blocks, in InlineEverything, without deduplication, with NullTerminatedStrings, and with a byte too little room.
use Rattle.std.specs.Prelude.{◌≡◌, refl, true, List, [], ◌∷◌, ℕ, replicate}
use Rattle.std.proofs.Math.Option.{none}
use Rattle.format.specs.Answer.{Answer, ok, refuse, ◌>>=◌, ◌>>◌, need_at}
use Rattle.format.specs.Label.{zigzag, septets, varint, label}
use Rattle.format.specs.Modes.{has}
use Rattle.format.specs.Table.{string}
use Rattle.format.specs.Read.{add_at, total, is_numbered, is_ended, ending}
use Rattle.format.specs.Write.{Event, text, same_text, further, first_equal, choose}
use Rattle.store.specs.Store.{lookup, change}
use Rattle.write_passes.specs.Plan.{put_bytes, emit_literal, emit_core, emit_slot, emit_bytes, emit_front, emit_choice, emit_text, emit_body, emit_event, emit_events}
use Rattle.write_passes.specs.Layout.{block_space, core_label, starts, core_start, message_length, put_labels, lay_out}
use Rattle.write_passes.specs.Passes.{second_pass, passes}

abbrev row : ℕ → List ℕ → Event
row k v = record { front = none; body = text k v }

-- «ab», «c» of another key, and «ab» again
abbrev sample : ℕ → ℕ → Answer (List ℕ)
sample modes room = passes modes (λ k. record { leaf = string; dedup = true }) (row 0 (97 ∷ 98 ∷ []) ∷ row 1 (99 ∷ []) ∷ row 0 (97 ∷ 98 ∷ []) ∷ []) (replicate room 255)

pub examples : (sample 0 11 ∷ sample 1 8 ∷ sample 32 13 ∷ sample 16 12 ∷ sample 0 9 ∷ [])
    ≡ (ok (0 ∷ 4 ∷ 97 ∷ 98 ∷ 2 ∷ 99 ∷ 6 ∷ 4 ∷ 2 ∷ 7 ∷ 255 ∷ []) ∷ ok (2 ∷ 4 ∷ 97 ∷ 98 ∷ 2 ∷ 99 ∷ 7 ∷ 255 ∷ [])
    ∷ ok (64 ∷ 8 ∷ 97 ∷ 98 ∷ 97 ∷ 98 ∷ 2 ∷ 99 ∷ 6 ∷ 4 ∷ 2 ∷ 4 ∷ 255 ∷ []) ∷ ok (32 ∷ 6 ∷ 97 ∷ 98 ∷ 0 ∷ 4 ∷ 99 ∷ 0 ∷ 6 ∷ 4 ∷ 2 ∷ 7 ∷ []) ∷ refuse 43 0 ∷ [])
unfolding is_ended ending passes second_pass emit_events emit_event emit_body emit_text emit_choice emit_front emit_bytes emit_slot emit_core emit_literal put_bytes lay_out put_labels message_length core_start starts core_label block_space lookup change choose first_equal further same_text is_numbered add_at total has label varint septets zigzag ◌>>=◌ ◌>>◌ need_at
examples = refl
