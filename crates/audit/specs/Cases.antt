-- Cases A to L (01, "Numbers to hold the definitions to"; H by 02, request 2, and the last number of check by request
-- 6), computed by the definitions that the contracts cite.
--
--   entry, two_entries, domain, configuration, key_over    what the cases share
--   numbers, answers, received, checksum_sent             what a case shows
--   domain_a, data_a, unit, wire, field_a, domain_h, field_h, zeros, layout_j, configure_j    the inputs of the cases
--   worked, said                                         what the definitions give, and what the papers say
--   CasesHold                                            they are the same
use Rattle.std.specs.Prelude.{◌≡◌, List, [], ◌∷◌, ◌++◌, ℕ, drop, get_or, replicate}
use Rattle.field.specs.declared.Domain.{Domain}
use Rattle.field.specs.Fields.{field_of}
use Rattle.layout.specs.declared.Entry.{Entry}
use Rattle.layout.specs.declared.Layout.{Layout}
use Rattle.layout.specs.Pieces.{places, total}
use Rattle.key.specs.declared.Configuration.{Configuration}
use Rattle.key.specs.declared.Key.{Key}
use Rattle.key.specs.Keys.{CheckResult, fresh_key, configure_result, check_result}
use Rattle.key.specs.Numbers.{number}
use Rattle.field.specs.Domains.{unsigned_domain}
use Rattle.transfer.specs.Transferring.{TransferResult, send_result, wire_after_send, receive_result, memory_after_receive}

-- ---- what the cases share

-- An entry.
abbrev pub entry : (start count skip : ℕ) → Entry
entry start count skip = record { start = record { 0 = start }; count = count; skip = skip }

-- A layout of two entries, of which `used` are used.
abbrev pub two_entries : (a b : Entry) (used repeat : ℕ) → Layout
two_entries a b used repeat = record { entries = a ∷ b ∷ replicate 14 (entry 0 0 0); used = used; repeat = repeat }

-- A domain with blocks of 8, application tag 0x1234 and reference tag 0xFFFFFFFF, in edition 1.
abbrev pub domain : (guard_type seed flags : ℕ) → Domain
domain guard_type seed flags = record {
  kind = 1;
  block_size = 8;
  guard_type = guard_type;
  reference_tag = 0xFFFFFFFF;
  seed = seed;
  application_tag = 0x1234;
  flags = flags;
  edition = 1;
}

-- A configuration with memory unsigned and attribute flag 0.
abbrev pub configuration : (wire : Domain) (check_mask : ℕ) (l : Layout) → Configuration
configuration wire check_mask l = record {
  signature = record {
    memory = unsigned_domain;
    wire = wire;
    attribute_flags = 0;
    check_mask = check_mask;
    copy_mask = 0;
  };
  layout = l;
}

-- A fresh key after configure, over n bytes of memory in one piece.
abbrev pub key_over : (n : ℕ) (wire : Domain) (check_mask : ℕ) → Key
key_over n wire check_mask =
    (configure_result fresh_key n (configuration wire check_mask (two_entries (entry 0 n 0) (entry 0 0 0) 1 1))).key

-- The numbers that check returns.
abbrev pub numbers : (c : CheckResult) → List ℕ
numbers c =
    c.error.error_type ∷ c.error.actual ∷ c.error.expected ∷ c.error.offset ∷ c.error.differing ∷ []

-- A transfer's number, bytes taken and bytes written.
abbrev pub answers : (t : TransferResult) → List ℕ
answers t = number t.outcome ∷ t.taken ∷ t.written ∷ []

-- A key for two blocks receives this wire: what receive returns, then what check returns.
abbrev pub received : (wire : Domain) (check_mask : ℕ) (bytes : List ℕ) → List ℕ
received wire check_mask bytes =
    let t = receive_result (key_over 16 wire check_mask) (replicate 16 0) bytes 0 16 in
    answers t ++ numbers (check_result t.key)

-- The checksum guard, from this seed, that a send puts after one block.
abbrev pub checksum_sent : (seed : ℕ) (block : List ℕ) → ℕ
checksum_sent seed block =
    (field_of (drop 8 (wire_after_send (key_over 8 (domain 1 seed 1) 0xFF) block (replicate 16 0xAA) 0 8))).guard

-- ---- what the cases name

-- A: CRC, seed 0, remap.
abbrev pub domain_a : Domain
domain_a = domain 0 0 1

-- H: with escape flag 2.
abbrev pub domain_h : Domain
domain_h = domain 0 0 3

-- A: the data of two blocks.
abbrev pub data_a : List ℕ
data_a = 0 ∷ 0 ∷ 0 ∷ 0 ∷ 0 ∷ 0 ∷ 0 ∷ 1 ∷ 0 ∷ 0 ∷ 0 ∷ 0 ∷ 0 ∷ 0 ∷ 0 ∷ 0 ∷ []

-- A unit: seven bytes of 00 and a last byte, then the field's eight.
abbrev pub unit : (last : ℕ) (field : List ℕ) → List ℕ
unit last field = 0 ∷ 0 ∷ 0 ∷ 0 ∷ 0 ∷ 0 ∷ 0 ∷ last ∷ field

-- A's wire, with this field after the first block and this last byte of the second.
abbrev pub wire : (first : List ℕ) (last : ℕ) → List ℕ
wire first last = unit 1 first ++ unit last (0 ∷ 0 ∷ 0x12 ∷ 0x34 ∷ 0 ∷ 0 ∷ 0 ∷ 0 ∷ [])

-- A: the field after the first block.
abbrev pub field_a : List ℕ
field_a = 0x8B ∷ 0xB7 ∷ 0x12 ∷ 0x34 ∷ 0xFF ∷ 0xFF ∷ 0xFF ∷ 0xFF ∷ []

-- H: the application tag FF FF, the guard wrong.
abbrev pub field_h : List ℕ
field_h = 0x8B ∷ 0xB8 ∷ 0xFF ∷ 0xFF ∷ 0xFF ∷ 0xFF ∷ 0xFF ∷ 0xFF ∷ []

-- Eight zeros.
abbrev pub zeros : List ℕ
zeros = 0 ∷ 0 ∷ 0 ∷ 0 ∷ 0 ∷ 0 ∷ 0 ∷ 0 ∷ []

-- J: entries (0, 512, 4), (1028, 8, 0), repeat 2. L has another second start.
abbrev pub layout_j : (second : ℕ) → Layout
layout_j second = two_entries (entry 0 512 4) (entry second 8 0) 2 2

-- The number that configure gives for it over n bytes of memory.
abbrev pub configure_j : (n second : ℕ) → ℕ
configure_j n second = number (configure_result fresh_key n (configuration domain_a 0xFF (layout_j second))).outcome

-- ---- the cases, and what the papers say of each

-- What the definitions give.
unfoldable pub worked : List (List ℕ)
worked =
    -- A: what send returns, and the wire sent
    (answers (send_result (key_over 16 domain_a 0xFF) data_a (replicate 32 0xAA) 0 16)
    ++ wire_after_send (key_over 16 domain_a 0xFF) data_a (replicate 32 0xAA) 0 16)
    -- B: what receive and check return, and the memory received
    ∷ (received domain_a 0xFF (wire field_a 0)
    ++ memory_after_receive (key_over 16 domain_a 0xFF) (replicate 16 0xAA) (wire field_a 0) 0 16)
    -- C
    ∷ received domain_a 0xFF (wire field_a 2)
    -- D
    ∷ received domain_a 0x3F (wire field_a 2)
    -- E: for seed 0 and seed 0xFFFF
    ∷ (checksum_sent 0 zeros ∷ checksum_sent 0xFFFF zeros ∷ [])
    -- F
    ∷ (checksum_sent 0 (0 ∷ 1 ∷ 0 ∷ 2 ∷ 0 ∷ 3 ∷ 0 ∷ 4 ∷ [])
    ∷ checksum_sent 0xFFFF (0 ∷ 1 ∷ 0 ∷ 2 ∷ 0 ∷ 3 ∷ 0 ∷ 4 ∷ []) ∷ [])
    -- G
    ∷ (checksum_sent 0 (0xFF ∷ 0xFF ∷ 0 ∷ 1 ∷ 0 ∷ 0 ∷ 0 ∷ 0 ∷ []) ∷ [])
    -- H
    ∷ received domain_h 0xFF (wire field_h 0)
    -- I
    ∷ received domain_h 0xCF (wire field_h 0)
    -- J: configure's number, the total, and the memory bytes of layout bytes 512 and 520
    ∷ (configure_j 1044 1028 ∷ total (layout_j 1028)
    ∷ get_or (places (layout_j 1028)) 512 0 ∷ get_or (places (layout_j 1028)) 520 0 ∷ [])
    -- K
    ∷ (configure_j 1043 1028 ∷ [])
    -- L
    ∷ (configure_j 1044 1027 ∷ [])
    ∷ []

-- What 01 says, for H 02, request 2, and of check's last number request 6.
unfoldable pub said : List (List ℕ)
said =
    -- A
    (0 ∷ 16 ∷ 32 ∷ wire field_a 0)
    -- B
    ∷ (0 ∷ 32 ∷ 16 ∷ 0 ∷ 0 ∷ 0 ∷ 0 ∷ 0 ∷ data_a)
    -- C
    ∷ (0 ∷ 32 ∷ 16 ∷ 1 ∷ 0x9CD9 ∷ 0 ∷ 16 ∷ 192 ∷ [])
    -- D
    ∷ (0 ∷ 32 ∷ 16 ∷ 0 ∷ 0 ∷ 0 ∷ 0 ∷ 0 ∷ [])
    -- E
    ∷ (0xFFFF ∷ 0 ∷ [])
    -- F
    ∷ (0xFFF5 ∷ 0xFFF5 ∷ [])
    -- G
    ∷ (0xFFFE ∷ [])
    -- H: no error
    ∷ (0 ∷ 32 ∷ 16 ∷ 0 ∷ 0 ∷ 0 ∷ 0 ∷ 0 ∷ [])
    -- I
    ∷ (0 ∷ 32 ∷ 16 ∷ 0 ∷ 0 ∷ 0 ∷ 0 ∷ 0 ∷ [])
    -- J
    ∷ (0 ∷ 1040 ∷ 1028 ∷ 516 ∷ [])
    -- K
    ∷ (6 ∷ [])
    -- L
    ∷ (7 ∷ [])
    ∷ []

-- Cases A to L hold.
abbrev pub CasesHold : Type 0
CasesHold = worked ≡ said
