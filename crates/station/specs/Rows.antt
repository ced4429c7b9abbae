-- What an end keeps of its peer, and what changes it.
use Rattle.std.specs.Prelude.{ℕ, ◌-◌, Bool, false, if◌then◌else◌, ◌&&◌, Some, None, Option, is_some, ◌==◌, nat_le, nat_lt}
use Rattle.station.specs.declared.row.Recovery.{Recovery}
use Rattle.station.specs.declared.row.Due.{Due}
use Rattle.station.specs.declared.row.Row.{Row}

abbrev pub new_row : Row
new_row = record { recovery = None; reset = None; due = None }

-- a loss, told by a RESET with this stamp: it is repeated after 6 ticks, three times
abbrev pub lost_row : Row → ℕ → Row
lost_row r n = record r { recovery = Some (record { ticks = 6; repeats = 3 }); reset = Some n }

-- a RESET was taken: it is acknowledged 2 ticks later
abbrev pub reset_taken : Row → ℕ → Row
reset_taken r n = record r { due = Some (record { answers = n; ticks = 2 }) }

-- is this the stamp of the last RESET sent?
abbrev pub is_last : Option ℕ → ℕ → Bool
is_last None n = false
is_last (Some m) n = n == m

-- an acknowledgement of the last RESET ends recovery, any other changes nothing
abbrev pub acknowledged : Row → ℕ → Row
acknowledged r n = if is_some r.recovery && is_last r.reset n then record r { recovery = None } else r

abbrev pub expired : Option Due → Option ℕ
expired None = None
expired (Some d) = if nat_le d.ticks 1 then Some d.answers else None

-- the stamp that is acknowledged on this tick
abbrev pub due_now : Row → Option ℕ
due_now r = expired r.due

abbrev pub later : Option Due → Option Due
later None = None
later (Some d) = if nat_le d.ticks 1 then None else Some (record d { ticks = d.ticks - 1 })

abbrev pub due_ticked : Row → Row
due_ticked r = record r { due = later r.due }

-- a timer that ends on this tick, and can still be started anew
abbrev pub runs_out : Option Recovery → Bool
runs_out None = false
runs_out (Some v) = v.ticks == 1 && nat_lt 0 v.repeats

-- is the RESET repeated on this tick?
abbrev pub repeat_now : Row → Bool
repeat_now r = runs_out r.recovery

-- one tick of a timer that does not end; a spent one stays spent
abbrev pub nearer : Option Recovery → Option Recovery
nearer None = None
nearer (Some v) = Some (record v { ticks = v.ticks - 1 })

abbrev pub reset_ticked : Row → Row
reset_ticked r = record r { recovery = nearer r.recovery }

-- a timer started anew, which spends a repeat
abbrev pub anew : Option Recovery → Option Recovery
anew None = None
anew (Some v) = Some (record { ticks = 6; repeats = v.repeats - 1 })

abbrev pub repeated : Row → ℕ → Row
repeated r n = record r { recovery = anew r.recovery; reset = Some n }
