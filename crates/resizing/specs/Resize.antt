-- Tables that follow the trade: a table, its gauge and its lines are copied into others of another K and C (document 02).
use Rattle.std.specs.Prelude.{ℕ, zero, suc, ◌+◌, ◌-◌, min, List, [], ◌∷◌, if◌then◌else◌, Some, None, Ok}
use Rattle.std.proofs.Math.Option.{none}
use Rattle.rules.specs.declared.Record.{Record}
use Rattle.rules.specs.Bytes.{line_at, put_line, put_gauge}
use Rattle.rules.specs.Pass.{Found, count_of}
use Rattle.rules.specs.Table.{Memory, is_tracked, is_lined, is_filled, line_of, filled_state, empty_state, with_state, unlined, freed, victim, coldest_lined, hottest_unlined, places, size, line_total, with_gauge, with_lines, write, fresh_memory}
use Rattle.rules.specs.Answers.{Completion, completion_number, Said, said}
use Rattle.rules.specs.Refusals.{number}
use Rattle.rules.specs.Numbers.{refusal}
use Rattle.rules.specs.Steps.{Outcome, outcome, raised, give_line}
use Rattle.rules.specs.Replay.{Truth}
use Rattle.rules.specs.Calls.{serial_good, verdict, sizes_test, order_test, serial_test, unless, leaving, HostMemory, host_lent, held, stored, gauge_test}

-- a change made so many times
unfoldable pub times : {A : Type 0} → ℕ → (A → A) → A → A
times zero change a = a
times (suc n) change a = change (times n change a)

unfoldable pub tracked_count : Memory → ℕ
tracked_count m = count_of is_tracked (places m) (size m)

unfoldable pub lined_count : Memory → ℕ
lined_count m = count_of is_lined (places m) (size m)

-- ---- fewer lines
-- | If more are on lines than the new C, the coldest lose them, first among equals.
unfoldable pub unline : Memory → Found → Memory
unline m None = m
unline m (Some (i, r)) = write m i (unlined r)

unfoldable pub unline_coldest : Memory → Memory
unline_coldest m = unline m (coldest_lined (places m) (size m))

unfoldable pub demoted : ℕ → Memory → Memory
demoted lines m = times (lined_count m - lines) unline_coldest m

-- ---- fewer records
-- | Then, if more are tracked than the new K, victims of [request 5's] order go, and the ceiling rises to the hottest one dropped if
-- | that is higher.
unfoldable pub drop : Memory → Found → Memory
drop m None = m
drop m (Some (i, r)) = write (raised r.heat m) i freed

unfoldable pub drop_victim : Memory → Memory
drop_victim m = drop m (victim (places m) (size m))

unfoldable pub evicted : ℕ → Memory → Memory
evicted records m = times (tracked_count m - records) drop_victim m

-- what is kept of a table, with its ceiling: of so many records and lines
unfoldable pub kept : ℕ → ℕ → Memory → Memory
kept records lines m = evicted records (demoted lines m)

-- ---- the copy
-- | Kept records are packed in their old order, .. and each kept record on a line gets the next line number in that order
-- The place of a record, and its line's number: as many as are tracked, or on lines, before it.
unfoldable pub place_of : (ℕ → Record) → ℕ → ℕ
place_of f i = count_of is_tracked f i

unfoldable pub line_for : (ℕ → Record) → ℕ → ℕ
line_for f i = count_of is_lined f i

-- | and filled or empty as before
unfoldable pub moved : ℕ → Record → Record
moved n r = if is_lined r then with_state (if is_filled r then filled_state n else empty_state n) r else r

-- | with its line's 64 bytes
unfoldable pub carried : List ℕ → ℕ → Record → Memory → Memory
carried lines n r m = if is_lined r then with_lines (put_line m.lines n (line_at lines (line_of r))) m else m

-- the record at place i, if it is one that is kept
unfoldable pub packed_one : Memory → ℕ → Memory → Memory
packed_one source i m =
    if is_tracked (places source i)
    then carried source.lines (line_for (places source) i) (places source i)
    (write m (place_of (places source) i) (moved (line_for (places source) i) (places source i)))
    else m

-- the first n records
unfoldable pub packed_first : Memory → ℕ → Memory → Memory
packed_first source zero m = m
packed_first source (suc n) m = packed_one source n (packed_first source n m)

-- | the rest free
-- The gauge is the source's. Line bytes beyond those copied stay.
unfoldable pub packed : Memory → Memory → Memory
packed source target = packed_first source (size source) (with_gauge source.gauge (fresh_memory target))

-- ---- spare lines
-- | Spare lines, lowest first, go one by one to the hottest tracked without one, first among equals, empty and with new tickets.
unfoldable pub give_spare : ℕ → Memory → Found → Memory
give_spare line m None = m
give_spare line m (Some (i, r)) = give_line m i line

unfoldable pub give_hottest : ℕ → Memory → Memory
give_hottest line m = give_spare line m (hottest_unlined (places m) (size m))

-- so many lines, from this one on
unfoldable pub promoted : ℕ → ℕ → Memory → Memory
promoted line zero m = m
promoted line (suc more) m = give_hottest (line + more) (promoted line more m)

unfoldable pub filled_up : Memory → Memory
filled_up m = promoted (lined_count m) (line_total m - lined_count m) m

-- ---- the call
-- | Copy a table, gauge and lines into others of another K and C.
unfoldable pub resize_steps : Memory → Memory → Memory
resize_steps source target = filled_up (packed (kept (size target) (line_total target) source) target)

-- | Refusal 1 applies to source or target sizes, 3 and 10 to the source
unfoldable pub resize_verdict : Memory → Memory → Completion
resize_verdict source target =
    verdict (sizes_test source ∷ sizes_test target ∷ order_test source ∷ serial_test (serial_good source) ∷ [])

-- | and they leave both
-- (The source is lent to be read alone.)
unfoldable pub resize_outcome : Memory → Memory → Outcome Completion Memory
resize_outcome source target =
    unless (resize_verdict source target) (leaving target) (outcome (Ok tt) (resize_steps source target))

-- | [Answers] done, or a refusal's number
unfoldable pub resize_said : Memory → Memory → Said
resize_said source target = unless (resize_verdict source target) (λ cause. refusal (number cause)) (said none [])

-- | After resizing, the product with the ceiling and the levelled sum's bound use the smallest record count since fresh, .. all else ..
-- | with the source's history
-- (What the replay of demand 3 makes of an accepted resize into so many records.)
unfoldable pub resize_truth : Truth → ℕ → Truth
resize_truth t records = record { total = t.total; heat = t.heat; picture = t.picture; fewest = min t.fewest records }

-- ---- the call by a C host
-- | gauge bytes not [24]
unfoldable pub hosted_resize : HostMemory → HostMemory → Outcome Completion HostMemory
hosted_resize source target =
    unless (verdict (gauge_test source ∷ gauge_test target ∷ [])) (leaving target)
    (outcome (resize_outcome (held source) (held target)).answer (stored target (resize_outcome (held source) (held target)).after))

unfoldable pub exported_resize : HostMemory → HostMemory → Outcome ℕ HostMemory
exported_resize source target =
    outcome (completion_number (hosted_resize source target).answer) (hosted_resize source target).after

-- ---- the same, by all tests in one row and byte by byte
abbrev pub host_left : HostMemory → Memory → HostMemory
host_left target m = host_lent m.table (put_gauge target.gauge m.gauge) m.lines

-- | Refusal 1 applies to source or target sizes, 3 and 10 to the source, and they leave both.
abbrev pub resize_told : HostMemory → HostMemory → Outcome ℕ HostMemory
resize_told source target =
    unless
    (verdict
    (gauge_test source
    ∷ gauge_test target
    ∷ sizes_test (held source)
    ∷ sizes_test (held target)
    ∷ order_test (held source)
    ∷ serial_test (serial_good (held source))
    ∷ []))
    (λ cause. outcome (number cause) target)
    (outcome 0 (host_left target (resize_steps (held source) (held target))))
