-- Document 01's sample: the journal, byte by byte, the rows and the text that it prints, and what it leaves.
use Rattle.std.specs.Prelude.{ℕ, ◌*◌, List, [], ◌∷◌, ◌++◌, replicate}
use Rattle.rules.specs.declared.Record.{Record}
use Rattle.rules.specs.declared.Gauge.{Gauge}
use Rattle.rules.specs.Bytes.{record_size, line_size, put_record}
use Rattle.rules.specs.Table.{Memory, with_lines}
use Rattle.rules.specs.Calls.{HostMemory, fresh_outcome}
use Rattle.rules.specs.Journal.{Row, aged_word, changed_word, unknown_word, stored_word, passed_word, hit_word, wanted_word, refused_word}

-- a record of the journal: its kind's byte, a key, a weight and a ticket below 256, and its picture, 64 bytes alike
unfoldable pub sample_entry : ℕ → ℕ → ℕ → ℕ → ℕ → List ℕ
sample_entry kind key weight picture ticket =
    (kind ∷ 0 ∷ weight ∷ 0 ∷ 0 ∷ 0 ∷ 0 ∷ 0 ∷ key ∷ replicate 7 0) ++ replicate 64 picture ++ (ticket ∷ replicate 7 0)

-- | Journal: read 5 w 3; fill 5; read 5 w 1; read 7 w 4; read 7 w 1; read 9 w 2; read 11 w 1; update 7 w 3; update 9 w 1; fill 7;
-- | age; read 9 w 1; read 9 w 1. .. row 2 of the sample brings ticket 1 (document 02)
unfoldable pub sample_journal : List ℕ
sample_journal =
    sample_entry 1 5 3 0 0
    ++ sample_entry 3 5 0 105 1
    ++ sample_entry 1 5 1 0 0
    ++ sample_entry 1 7 4 0 0
    ++ sample_entry 1 7 1 0 0
    ++ sample_entry 1 9 2 0 0
    ++ sample_entry 1 11 1 0 0
    ++ sample_entry 2 7 3 0 0
    ++ sample_entry 2 9 1 0 0
    ++ sample_entry 3 7 0 107 0
    ++ sample_entry 4 0 0 0 0
    ++ sample_entry 1 9 1 0 0
    ++ sample_entry 1 9 1 0 0

-- a gauge by its numbers
abbrev pub gauge_of : ℕ → ℕ → ℕ → Gauge
gauge_of total ceiling serial = record { total = total; ceiling = ceiling; serial = serial }

-- | K = 3, C = 1
-- What fresh is lent: no byte of it and no number is zero.
unfoldable pub sample_lent : Memory
sample_lent =
    record {
      table = replicate (3 * record_size) 255;
      gauge = gauge_of 6 7 8;
      lines = replicate (1 * line_size) 170;
    }

-- | starts fresh
unfoldable pub sample_start : Memory
sample_start = (fresh_outcome sample_lent).after

abbrev pub row : ℕ → List ℕ → ℕ → ℕ → Row
row number word total ceiling = record { number = number; word = word; total = total; ceiling = ceiling }

-- | Output, whole
unfoldable pub sample_rows : List Row
sample_rows =
    row 1 wanted_word 3 0
    ∷ row 2 stored_word 3 0
    ∷ row 3 hit_word 4 0
    ∷ row 4 passed_word 8 0
    ∷ row 5 wanted_word 9 0
    ∷ row 6 passed_word 11 0
    ∷ row 7 passed_word 12 2
    ∷ row 8 changed_word 12 2
    ∷ row 9 unknown_word 12 2
    ∷ row 10 (refused_word ++ (53 ∷ [])) 12 2
    ∷ row 11 aged_word 6 1
    ∷ row 12 passed_word 7 1
    ∷ row 13 wanted_word 8 1
    ∷ []

-- | Output, whole: byte by byte, the last of each line a line feed
unfoldable pub sample_text : List ℕ
sample_text =
    -- 1 wanted 3 0
    49 ∷ 32 ∷ 119 ∷ 97 ∷ 110 ∷ 116 ∷ 101 ∷ 100 ∷ 32 ∷ 51 ∷ 32 ∷ 48 ∷ 10
    -- 2 stored 3 0
    ∷ 50 ∷ 32 ∷ 115 ∷ 116 ∷ 111 ∷ 114 ∷ 101 ∷ 100 ∷ 32 ∷ 51 ∷ 32 ∷ 48 ∷ 10
    -- 3 hit 4 0
    ∷ 51 ∷ 32 ∷ 104 ∷ 105 ∷ 116 ∷ 32 ∷ 52 ∷ 32 ∷ 48 ∷ 10
    -- 4 passed 8 0
    ∷ 52 ∷ 32 ∷ 112 ∷ 97 ∷ 115 ∷ 115 ∷ 101 ∷ 100 ∷ 32 ∷ 56 ∷ 32 ∷ 48 ∷ 10
    -- 5 wanted 9 0
    ∷ 53 ∷ 32 ∷ 119 ∷ 97 ∷ 110 ∷ 116 ∷ 101 ∷ 100 ∷ 32 ∷ 57 ∷ 32 ∷ 48 ∷ 10
    -- 6 passed 11 0
    ∷ 54 ∷ 32 ∷ 112 ∷ 97 ∷ 115 ∷ 115 ∷ 101 ∷ 100 ∷ 32 ∷ 49 ∷ 49 ∷ 32 ∷ 48 ∷ 10
    -- 7 passed 12 2
    ∷ 55 ∷ 32 ∷ 112 ∷ 97 ∷ 115 ∷ 115 ∷ 101 ∷ 100 ∷ 32 ∷ 49 ∷ 50 ∷ 32 ∷ 50 ∷ 10
    -- 8 changed 12 2
    ∷ 56 ∷ 32 ∷ 99 ∷ 104 ∷ 97 ∷ 110 ∷ 103 ∷ 101 ∷ 100 ∷ 32 ∷ 49 ∷ 50 ∷ 32 ∷ 50 ∷ 10
    -- 9 unknown 12 2
    ∷ 57 ∷ 32 ∷ 117 ∷ 110 ∷ 107 ∷ 110 ∷ 111 ∷ 119 ∷ 110 ∷ 32 ∷ 49 ∷ 50 ∷ 32 ∷ 50 ∷ 10
    -- 10 refused-5 12 2
    ∷ 49 ∷ 48 ∷ 32 ∷ 114 ∷ 101 ∷ 102 ∷ 117 ∷ 115 ∷ 101 ∷ 100 ∷ 45 ∷ 53 ∷ 32 ∷ 49 ∷ 50 ∷ 32 ∷ 50 ∷ 10
    -- 11 aged 6 1
    ∷ 49 ∷ 49 ∷ 32 ∷ 97 ∷ 103 ∷ 101 ∷ 100 ∷ 32 ∷ 54 ∷ 32 ∷ 49 ∷ 10
    -- 12 passed 7 1
    ∷ 49 ∷ 50 ∷ 32 ∷ 112 ∷ 97 ∷ 115 ∷ 115 ∷ 101 ∷ 100 ∷ 32 ∷ 55 ∷ 32 ∷ 49 ∷ 10
    -- 13 wanted 8 1
    ∷ 49 ∷ 51 ∷ 32 ∷ 119 ∷ 97 ∷ 110 ∷ 116 ∷ 101 ∷ 100 ∷ 32 ∷ 56 ∷ 32 ∷ 49 ∷ 10
    ∷ []

-- ---- what examples are made of
-- a record by its numbers
abbrev pub numbers : ℕ → ℕ → ℕ → ℕ → ℕ → Record
numbers key heat slack state ticket = record { key = key; heat = heat; slack = slack; state = state; ticket = ticket }

-- a memory by its three records, its gauge and its count of lines, no byte of which is zero
unfoldable pub three_records : Record → Record → Record → Gauge → ℕ → Memory
three_records x y z gauge c =
    record {
      table = put_record (put_record (put_record (replicate (3 * record_size) 0) 0 x) 1 y) 2 z;
      gauge = gauge;
      lines = replicate (c * line_size) 170;
    }

-- the pictures, each of 64 bytes alike
abbrev pub sample_picture : ℕ → List ℕ
sample_picture byte = replicate line_size byte

-- what it leaves: 9 on line 0, which is empty; its bytes are those of the one accepted fill. Tickets were given by rows 1, 5, 8 and 13.
unfoldable pub sample_end : Memory
sample_end = with_lines (sample_picture 105) (three_records (numbers 5 2 0 1 0) (numbers 7 1 0 1 0) (numbers 9 3 1 2 4) (gauge_of 8 1 4) 1)

-- The start as a C host lends it, with that many gauge bytes.
unfoldable pub host_start : ℕ → HostMemory
host_start n = record { table = sample_start.table; gauge = replicate n 0; lines = sample_start.lines }
