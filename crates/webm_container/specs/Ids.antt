-- The ids of elements, with their markers.
use Rattle.std.specs.Prelude.{ℕ, Bool, ◌||◌, nat_eq}

abbrev pub ebml : ℕ
ebml = 0x1A45_DFA3

abbrev pub segment : ℕ
segment = 0x1853_8067

abbrev pub tracks : ℕ
tracks = 0x1654_AE6B

abbrev pub track_entry : ℕ
track_entry = 0xAE

abbrev pub track_number : ℕ
track_number = 0xD7

abbrev pub codec_id : ℕ
codec_id = 0x86

abbrev pub content_encodings : ℕ
content_encodings = 0x6D80

abbrev pub cluster : ℕ
cluster = 0x1F43_B675

abbrev pub simple_block : ℕ
simple_block = 0xA3

abbrev pub block_group : ℕ
block_group = 0xA0

abbrev pub block : ℕ
block = 0xA1

abbrev pub cues : ℕ
cues = 0x1C53_BB6B

abbrev pub tags : ℕ
tags = 0x1254_C367

abbrev pub seek_head : ℕ
seek_head = 0x114D_9B74

abbrev pub info : ℕ
info = 0x1549_A966

abbrev pub chapters : ℕ
chapters = 0x1043_A770

abbrev pub attachments : ℕ
attachments = 0x1941_A469

-- the children of a Segment, before which a Cluster of unknown size ends
abbrev pub is_top_level : ℕ → Bool
is_top_level id =
    nat_eq id cluster || nat_eq id tracks || nat_eq id cues || nat_eq id tags || nat_eq id seek_head || nat_eq id info || nat_eq id chapters || nat_eq id attachments
