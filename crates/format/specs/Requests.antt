-- The requests' rules by example, a list for each request, by computing.
use Rattle.std.specs.Prelude.{◌≡◌, refl, List, [], ◌∷◌, ℕ, ◌-◌, ◌^◌, ℤ, pos, negsuc, length}
use Rattle.std.specs.Int.Count.{count_leading_zeros}
use Rattle.format.specs.Answer
use Rattle.format.specs.Label
use Rattle.format.specs.Utf8
use Rattle.format.specs.Modes
use Rattle.format.specs.Table
use Rattle.format.specs.Row
use Rattle.format.specs.Read
use Rattle.format.specs.Write
use Rattle.format.specs.Examples.{table_of, S, answered, reading, writing, writing_in}

-- No. 2: an overlong slash, half a surrogate pair, a code point above 10FFFF; the euro sign and the last code point; and a surrogate to be written, in row 1
pub names :
    (reading S (0x00 ∷ 0x04 ∷ 0xc0 ∷ 0xaf ∷ 0x04 ∷ 0x02 ∷ 0x04 ∷ [])
    ∷ reading S (0x00 ∷ 0x06 ∷ 0xed ∷ 0xa0 ∷ 0x80 ∷ 0x04 ∷ 0x02 ∷ 0x06 ∷ [])
    ∷ reading S (0x00 ∷ 0x08 ∷ 0xf4 ∷ 0x90 ∷ 0x80 ∷ 0x80 ∷ 0x04 ∷ 0x02 ∷ 0x08 ∷ [])
    ∷ reading S (0x00 ∷ 0x0e ∷ 0xe2 ∷ 0x82 ∷ 0xac ∷ 0xf4 ∷ 0x8f ∷ 0xbf ∷ 0xbf ∷ 0x06 ∷ 0x04 ∷ 0x06 ∷ 0x08 ∷ [])
    ∷ writing S (10 ∷ 1 ∷ 0 ∷ 0 ∷ 6 ∷ 0 ∷ 3 ∷ 1 ∷ []) (0xed ∷ 0xa0 ∷ 0x80 ∷ [])
    ∷ Utf8.encodings (0x24 ∷ 0xa3 ∷ 0x20ac ∷ 0x10ffff ∷ [])
    ∷ [])
    ≡
    ((28 ∷ 0 ∷ [])
    ∷ (28 ∷ 0 ∷ [])
    ∷ (28 ∷ 0 ∷ [])
    ∷ (0 ∷ 3 ∷ 10 ∷ 2 ∷ 0 ∷ 0 ∷ 6 ∷ 2 ∷ 3 ∷ 1 ∷ 6 ∷ 5 ∷ 4 ∷ 1 ∷ [])
    ∷ (28 ∷ 1 ∷ [])
    ∷ (0x24 ∷ 0xc2 ∷ 0xa3 ∷ 0xe2 ∷ 0x82 ∷ 0xac ∷ 0xf4 ∷ 0x8f ∷ 0xbf ∷ 0xbf ∷ [])
    ∷ [])
unfolding
    Answer.number Answer.second Answer.output Answer.◌>>=◌ Answer.◌>>◌ Answer.need_at Answer.or_refuse
    Label.zigzag Label.unzigzag Label.septets Label.varint Label.label Label.continued Label.read_septets Label.within64 Label.read_varint Label.signed_of Label.read_label Label.word Label.integer
    Utf8.within Utf8.behind_lead Utf8.goes_on Utf8.text_from Utf8.is_text Utf8.encoding Utf8.encodings
    Modes.has Modes.among Modes.are_allowed Modes.read_header
    Table.u16 Table.node_at Table.omittable Table.deduplicate Table.most_argument Table.right_alone Table.is_textual Table.is_leaf Table.kind_may_stand Table.omittable_may_stand Table.may_stand Table.top_of Table.wire_of Table.shape_of Table.leaf_of Table.each Table.first_from Table.stands Table.build_fields Table.below Table.build Table.tree Table.is_block_of Table.held_by Table.alike Table.agrees Table.is_marked Table.right_count Table.schema_of Table.check
    Row.says_words Row.row_words Row.words Row.is_place Row.from_words Row.under Row.row_at Row.is_inside Row.found Row.look Row.says_part Row.part_of Row.part Row.says_of Row.cell_of Row.shown_at Row.shown_from
    Read.is_label Read.is_numbered Read.is_right Read.is_ended Read.ending Read.nth Read.add_at Read.total Read.little_endian Read.field_count Read.truth_of Read.count_of Read.is_null Read.read_number Read.read_bytes Read.read_literal Read.is_read Read.take_label Read.take_row Read.at_block Read.at_key Read.add_literal Read.one_row Read.row_or Read.entries Read.own_label Read.no_label Read.value Read.from_key Read.read_text Read.leaf Read.wire Read.walk Read.all_read Read.is_done Read.size_of Read.pieces Read.last_of Read.blocks_and_core Read.split Read.read_checked Read.read
    Write.unlabelled Write.next_in Write.is_bare Write.word_in Write.text_in Write.truth_in Write.little_endian_bytes Write.mark_or Write.fit_entries Write.fit_field Write.fit_leaf Write.fit_wire Write.same_text Write.further Write.first_equal Write.choose Write.add_bytes Write.put_label Write.put_value Write.put_literal Write.put_front Write.put_choice Write.put_body Write.put_events Write.block_pieces Write.piece_bytes Write.message_of Write.body_value Write.values_of Write.unless_there Write.distinct_after Write.different_values Write.are_whole Write.events_of Write.encode Write.write_checked Write.write
names = refl

abbrev size : ℤ → List ℕ
size n = Label.size_of_zeros (count_leading_zeros 64 (Label.zigzag n)) ∷ Label.label_size n ∷ []

-- No. 4: the sizes of the labels 0, 63, 64 and -2^63, by the formula and by the seven-bit rule
pub sizes :
    (size (pos 0) ∷ size (pos 63) ∷ size (pos 64) ∷ size (negsuc (2 ^ 63 - 1)) ∷ [])
    ≡ ((1 ∷ 1 ∷ []) ∷ (1 ∷ 1 ∷ []) ∷ (2 ∷ 2 ∷ []) ∷ (10 ∷ 10 ∷ []) ∷ [])
unfolding count_leading_zeros Label.zigzag Label.septets Label.varint Label.label Label.size_of_zeros
sizes = refl

-- looking at row i where one byte is lent; on success the row's words
abbrev looking : List ℕ → ℕ → List ℕ
looking ws i = answered Row.row_words (λ r. 0) (Row.look ws 1 i)

-- a record of an omittable NULLABLE text (nodes 1 to 3) and of a NULLABLE array (nodes 4 and 5) of NULLABLE truths (nodes 6 and 7)
abbrev T : List ℕ
T = table_of 8 (7 ∷ 0 ∷ 2 ∷ 0 ∷ 10 ∷ 1 ∷ 0 ∷ 0 ∷ 9 ∷ 2 ∷ 0 ∷ 0 ∷ 1 ∷ 0 ∷ 0 ∷ 0 ∷ 10 ∷ 0 ∷ 0 ∷ 0 ∷ 8 ∷ 0 ∷ 0 ∷ 0 ∷ 10 ∷ 0 ∷ 0 ∷ 0 ∷ 2 ∷ 0 ∷ 0 ∷ 0 ∷ [])

-- its rows, but for some nodes: a text, an array of a truth and a null
abbrev tree : ℕ → ℕ → ℕ → ℕ → List ℕ
tree text array truth null = 9 ∷ 2 ∷ 0 ∷ 0 ∷ 6 ∷ 2 ∷ 1 ∷ text ∷ 10 ∷ 2 ∷ 0 ∷ array ∷ 3 ∷ 0 ∷ 0 ∷ truth ∷ 0 ∷ 0 ∷ 0 ∷ null ∷ []

abbrev tree_message : List ℕ
tree_message = 0x00 ∷ 0x02 ∷ 0x41 ∷ 0x08 ∷ 0x02 ∷ 0x04 ∷ 0x02 ∷ 0x01 ∷ []

-- No. 7. Each row has the topmost node of its value: a present text under the NULLABLE (1), the array too (4), its entries under the NULLABLE that is its child (6); an absent field and a null array; a BLOCK's text with no NULLABLE above it.
-- Written, the same rows give the message again; a wrong node is 42 at its row, be it a text's, an array's, a truth's, a null's or an absent field's, and before 28.
-- Three words are no row: of seven, row 1 cannot be looked at (50) and they are not whole rows (41), and no row fits three (31).
-- A node of 1,024 cannot be looked at, 1,023 can, though no table here has it; the part does not ask for it.
pub nodes :
    (reading T tree_message
    ∷ reading T (0x00 ∷ 0x04 ∷ 0x03 ∷ 0x01 ∷ [])
    ∷ reading S (0x00 ∷ 0x02 ∷ 0x41 ∷ 0x04 ∷ 0x02 ∷ 0x02 ∷ [])
    ∷ writing T (tree 1 4 6 6) tree_message
    ∷ writing T (tree 2 4 6 6) tree_message
    ∷ writing T (tree 1 5 6 6) tree_message
    ∷ writing T (tree 1 4 7 6) tree_message
    ∷ writing T (tree 1 4 6 7) tree_message
    ∷ writing T (9 ∷ 2 ∷ 0 ∷ 0 ∷ 1 ∷ 0 ∷ 0 ∷ 2 ∷ 0 ∷ 0 ∷ 0 ∷ 4 ∷ []) []
    ∷ writing S (10 ∷ 1 ∷ 0 ∷ 0 ∷ 6 ∷ 0 ∷ 1 ∷ 2 ∷ []) (0xff ∷ [])
    ∷ writing S (10 ∷ 0 ∷ 0 ∷ 0 ∷ 0 ∷ 0 ∷ 0 ∷ []) []
    ∷ answered Row.words length (Read.read 16384 S (0x00 ∷ 0x02 ∷ 0x00 ∷ []) 3)
    ∷ looking (10 ∷ 0 ∷ 0 ∷ 0 ∷ 0 ∷ 0 ∷ 0 ∷ []) 1
    ∷ looking (6 ∷ 0 ∷ 1 ∷ 1024 ∷ []) 0
    ∷ looking (6 ∷ 0 ∷ 1 ∷ 1023 ∷ []) 0
    ∷ Row.part (6 ∷ 0 ∷ 1 ∷ 1024 ∷ []) (0x41 ∷ []) 0
    ∷ [])
    ≡
    ((0 ∷ 5 ∷ tree 1 4 6 6)
    ∷ (0 ∷ 3 ∷ 9 ∷ 2 ∷ 0 ∷ 0 ∷ 1 ∷ 0 ∷ 0 ∷ 1 ∷ 0 ∷ 0 ∷ 0 ∷ 4 ∷ [])
    ∷ (0 ∷ 2 ∷ 10 ∷ 1 ∷ 0 ∷ 0 ∷ 6 ∷ 2 ∷ 1 ∷ 1 ∷ [])
    ∷ (0 ∷ 8 ∷ tree_message)
    ∷ (42 ∷ 1 ∷ [])
    ∷ (42 ∷ 2 ∷ [])
    ∷ (42 ∷ 3 ∷ [])
    ∷ (42 ∷ 4 ∷ [])
    ∷ (42 ∷ 1 ∷ [])
    ∷ (42 ∷ 1 ∷ [])
    ∷ (41 ∷ 0 ∷ [])
    ∷ (31 ∷ 0 ∷ [])
    ∷ (50 ∷ 0 ∷ [])
    ∷ (51 ∷ 0 ∷ [])
    ∷ (0 ∷ 0 ∷ 6 ∷ 0 ∷ 1 ∷ 1023 ∷ [])
    ∷ (0x41 ∷ [])
    ∷ [])
unfolding
    Answer.number Answer.second Answer.output Answer.◌>>=◌ Answer.◌>>◌ Answer.need_at Answer.or_refuse
    Label.zigzag Label.unzigzag Label.septets Label.varint Label.label Label.continued Label.read_septets Label.within64 Label.read_varint Label.signed_of Label.read_label Label.word Label.integer
    Utf8.within Utf8.behind_lead Utf8.goes_on Utf8.text_from Utf8.is_text Utf8.encoding Utf8.encodings
    Modes.has Modes.among Modes.are_allowed Modes.read_header
    Table.u16 Table.node_at Table.omittable Table.deduplicate Table.most_argument Table.right_alone Table.is_textual Table.is_leaf Table.kind_may_stand Table.omittable_may_stand Table.may_stand Table.top_of Table.wire_of Table.shape_of Table.leaf_of Table.each Table.first_from Table.stands Table.build_fields Table.below Table.build Table.tree Table.is_block_of Table.held_by Table.alike Table.agrees Table.is_marked Table.right_count Table.schema_of Table.check
    Row.says_words Row.row_words Row.words Row.is_place Row.from_words Row.under Row.row_at Row.is_inside Row.found Row.look Row.says_part Row.part_of Row.part Row.says_of Row.cell_of Row.shown_at Row.shown_from
    Read.is_label Read.is_numbered Read.is_right Read.is_ended Read.ending Read.nth Read.add_at Read.total Read.little_endian Read.field_count Read.truth_of Read.count_of Read.is_null Read.read_number Read.read_bytes Read.read_literal Read.is_read Read.take_label Read.take_row Read.at_block Read.at_key Read.add_literal Read.one_row Read.row_or Read.entries Read.own_label Read.no_label Read.value Read.from_key Read.read_text Read.leaf Read.wire Read.walk Read.all_read Read.is_done Read.size_of Read.pieces Read.last_of Read.blocks_and_core Read.split Read.read_checked Read.read
    Write.unlabelled Write.next_in Write.is_bare Write.word_in Write.text_in Write.truth_in Write.little_endian_bytes Write.mark_or Write.fit_entries Write.fit_field Write.fit_leaf Write.fit_wire Write.same_text Write.further Write.first_equal Write.choose Write.add_bytes Write.put_label Write.put_value Write.put_literal Write.put_front Write.put_choice Write.put_body Write.put_events Write.block_pieces Write.piece_bytes Write.message_of Write.body_value Write.values_of Write.unless_there Write.distinct_after Write.different_values Write.are_whole Write.events_of Write.encode Write.write_checked Write.write
nodes = refl

-- No. 5: in mode 4 each text is followed by a 00, an empty one too, and a backreference by none; a 00 inside a text is a byte like any other; BYTES have none.
-- No byte left for the 00 is 27, where there is none for the text too; another byte there is 35, also where the text is no text. In mode 0 both stand in the core.
-- The writer puts a 00 behind each text, whatever stands behind it in the pool.
abbrev B : List ℕ
B = table_of 3 (0x08 ∷ 0x00 ∷ 0x00 ∷ 0x00 ∷ 0x09 ∷ 0x02 ∷ 0x00 ∷ 0x00 ∷ 0x05 ∷ 0x00 ∷ 0x00 ∷ 0x00 ∷ [])

pub endings :
    (reading S (0x20 ∷ 0x06 ∷ 0x41 ∷ 0x00 ∷ 0x00 ∷ 0x08 ∷ 0x06 ∷ 0x02 ∷ 0x00 ∷ 0x07 ∷ [])
    ∷ reading S (0x20 ∷ 0x08 ∷ 0x41 ∷ 0x00 ∷ 0x42 ∷ 0x00 ∷ 0x04 ∷ 0x02 ∷ 0x06 ∷ [])
    ∷ reading B (0x20 ∷ 0x02 ∷ 0xff ∷ 0x04 ∷ 0x02 ∷ 0x02 ∷ [])
    ∷ reading S (0x20 ∷ 0x02 ∷ 0x41 ∷ 0x04 ∷ 0x02 ∷ 0x02 ∷ [])
    ∷ reading S (0x20 ∷ 0x02 ∷ 0x41 ∷ 0x04 ∷ 0x02 ∷ 0x04 ∷ [])
    ∷ reading S (0x20 ∷ 0x04 ∷ 0x41 ∷ 0x01 ∷ 0x04 ∷ 0x02 ∷ 0x02 ∷ [])
    ∷ reading S (0x20 ∷ 0x04 ∷ 0xff ∷ 0x01 ∷ 0x04 ∷ 0x02 ∷ 0x02 ∷ [])
    ∷ reading S (0x20 ∷ 0x04 ∷ 0xff ∷ 0x00 ∷ 0x04 ∷ 0x02 ∷ 0x02 ∷ [])
    ∷ reading S (0x22 ∷ 0x02 ∷ 0x02 ∷ 0x41 ∷ 0x00 ∷ [])
    ∷ writing_in 16 S (10 ∷ 3 ∷ 0 ∷ 0 ∷ 6 ∷ 0 ∷ 1 ∷ 1 ∷ 6 ∷ 0 ∷ 0 ∷ 1 ∷ 6 ∷ 0 ∷ 1 ∷ 1 ∷ []) (0x41 ∷ 0x42 ∷ [])
    ∷ writing_in 17 S (10 ∷ 1 ∷ 0 ∷ 0 ∷ 6 ∷ 0 ∷ 1 ∷ 1 ∷ []) (0x41 ∷ 0x42 ∷ [])
    ∷ writing_in 16 B (10 ∷ 1 ∷ 0 ∷ 0 ∷ 7 ∷ 0 ∷ 1 ∷ 1 ∷ []) (0xff ∷ [])
    ∷ [])
    ≡
    ((0 ∷ 4 ∷ 10 ∷ 3 ∷ 0 ∷ 0 ∷ 6 ∷ 2 ∷ 1 ∷ 1 ∷ 6 ∷ 4 ∷ 0 ∷ 1 ∷ 6 ∷ 2 ∷ 1 ∷ 1 ∷ [])
    ∷ (0 ∷ 2 ∷ 10 ∷ 1 ∷ 0 ∷ 0 ∷ 6 ∷ 2 ∷ 3 ∷ 1 ∷ [])
    ∷ (0 ∷ 2 ∷ 10 ∷ 1 ∷ 0 ∷ 0 ∷ 7 ∷ 2 ∷ 1 ∷ 1 ∷ [])
    ∷ (27 ∷ 0 ∷ [])
    ∷ (27 ∷ 0 ∷ [])
    ∷ (35 ∷ 0 ∷ [])
    ∷ (35 ∷ 0 ∷ [])
    ∷ (28 ∷ 0 ∷ [])
    ∷ (0 ∷ 2 ∷ 10 ∷ 1 ∷ 0 ∷ 0 ∷ 6 ∷ 3 ∷ 1 ∷ 1 ∷ [])
    ∷ (0 ∷ 10 ∷ 32 ∷ 6 ∷ 65 ∷ 0 ∷ 0 ∷ 8 ∷ 6 ∷ 2 ∷ 0 ∷ 7 ∷ [])
    ∷ (0 ∷ 5 ∷ 34 ∷ 2 ∷ 2 ∷ 65 ∷ 0 ∷ [])
    ∷ (0 ∷ 6 ∷ 32 ∷ 2 ∷ 255 ∷ 4 ∷ 2 ∷ 2 ∷ [])
    ∷ [])
unfolding
    Answer.number Answer.second Answer.output Answer.◌>>=◌ Answer.◌>>◌ Answer.need_at Answer.or_refuse
    Label.zigzag Label.unzigzag Label.septets Label.varint Label.label Label.continued Label.read_septets Label.within64 Label.read_varint Label.signed_of Label.read_label Label.word Label.integer
    Utf8.within Utf8.behind_lead Utf8.goes_on Utf8.text_from Utf8.is_text Utf8.encoding Utf8.encodings
    Modes.has Modes.among Modes.are_allowed Modes.read_header
    Table.u16 Table.node_at Table.omittable Table.deduplicate Table.most_argument Table.right_alone Table.is_textual Table.is_leaf Table.kind_may_stand Table.omittable_may_stand Table.may_stand Table.top_of Table.wire_of Table.shape_of Table.leaf_of Table.each Table.first_from Table.stands Table.build_fields Table.below Table.build Table.tree Table.is_block_of Table.held_by Table.alike Table.agrees Table.is_marked Table.right_count Table.schema_of Table.check
    Row.says_words Row.row_words Row.words Row.is_place Row.from_words Row.under Row.row_at Row.is_inside Row.found Row.look Row.says_part Row.part_of Row.part Row.says_of Row.cell_of Row.shown_at Row.shown_from
    Read.is_label Read.is_numbered Read.is_right Read.is_ended Read.ending Read.nth Read.add_at Read.total Read.little_endian Read.field_count Read.truth_of Read.count_of Read.is_null Read.read_number Read.read_bytes Read.read_literal Read.is_read Read.take_label Read.take_row Read.at_block Read.at_key Read.add_literal Read.one_row Read.row_or Read.entries Read.own_label Read.no_label Read.value Read.from_key Read.read_text Read.leaf Read.wire Read.walk Read.all_read Read.is_done Read.size_of Read.pieces Read.last_of Read.blocks_and_core Read.split Read.read_checked Read.read
    Write.unlabelled Write.next_in Write.is_bare Write.word_in Write.text_in Write.truth_in Write.little_endian_bytes Write.mark_or Write.fit_entries Write.fit_field Write.fit_leaf Write.fit_wire Write.same_text Write.further Write.first_equal Write.choose Write.add_bytes Write.put_label Write.put_value Write.put_literal Write.put_front Write.put_choice Write.put_body Write.put_events Write.block_pieces Write.piece_bytes Write.message_of Write.body_value Write.values_of Write.unless_there Write.distinct_after Write.different_values Write.are_whole Write.events_of Write.encode Write.write_checked Write.write
endings = refl
