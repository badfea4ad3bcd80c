-- Document 01's sample as a list of demand 3.
use Rattle.std.specs.Prelude.{List, [], ◌∷◌, true, false}
use Rattle.rules.specs.Sample.{sample_picture}
use Rattle.demand.specs.List.{read, update, fill, age, Call, Event, happened}

-- Its thirteen calls.
unfoldable pub sample_calls : List Call
sample_calls =
    read 5 3
    ∷ fill 5 (sample_picture 105) 1
    ∷ read 5 1
    ∷ read 7 4
    ∷ read 7 1
    ∷ read 9 2
    ∷ read 11 1
    ∷ update 7 3
    ∷ update 9 1
    ∷ fill 7 (sample_picture 107) 0
    ∷ age
    ∷ read 9 1
    ∷ read 9 1
    ∷ []

-- What happened: each call with the serial that it found, and before them a host's call that has too few gauge bytes.
unfoldable pub sample_events : List Event
sample_events =
    happened (read 5 3) true 0
    ∷ happened (read 5 3) false 0
    ∷ happened (fill 5 (sample_picture 105) 1) false 1
    ∷ happened (read 5 1) false 1
    ∷ happened (read 7 4) false 1
    ∷ happened (read 7 1) false 1
    ∷ happened (read 9 2) false 2
    ∷ happened (read 11 1) false 2
    ∷ happened (update 7 3) false 2
    ∷ happened (update 9 1) false 3
    ∷ happened (fill 7 (sample_picture 107) 0) true 3
    ∷ happened age false 3
    ∷ happened (read 9 1) false 3
    ∷ happened (read 9 1) false 3
    ∷ []
