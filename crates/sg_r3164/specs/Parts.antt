-- The parts of a record, each by the bytes that it takes at the front of a text (RFC 3164, section 4).
use Rattle.std.specs.Prelude.{ℕ, ◌+◌, ◌-◌, ◌==◌, Bool, ◌&&◌, not, nat_lt, if◌then◌else◌, List, drop, slice_range, Option, None, Some, option_map}
use Rattle.std.specs.List.{prefix_len}
use Rattle.sg_msg.specs.Priority.{has_at}
use Rattle.sg_msg.specs.Sets.{is_print}
use Rattle.sg_r3164.specs.declared.parts.Tag.{Tag}

-- the place behind the byte, where it stands at this place, and else this place
abbrev pub past : List ℕ → ℕ → ℕ → ℕ
past text place byte = if has_at text place byte then place + 1 else place

-- a byte of a host's name: no space, no [
abbrev pub is_host_byte : ℕ → Bool
is_host_byte b = is_print b && not (b == 91)

-- the length of the host, which a space follows, and which doesn't end in a colon (section 4.1.2)
abbrev pub host_len : List ℕ → Option ℕ
host_len text =
    let len = prefix_len is_host_byte text in
    if nat_lt 0 len && has_at text len 32 && not (has_at text (len - 1) 58) then Some len else None

-- a byte of a program's name, and of a process id
abbrev pub is_program_byte : ℕ → Bool
is_program_byte b = is_print b && not (b == 58) && not (b == 91)

abbrev pub is_pid_byte : ℕ → Bool
is_pid_byte b = is_print b && not (b == 93)

-- the tag behind a program's name of this length: a colon and maybe a space
abbrev pub plain_tag : List ℕ → ℕ → Option Tag
plain_tag text program = Some
    (record { program = program; pid = None; len = past text (program + 1) 32 })

-- or a process id in brackets, and maybe a colon and a space
abbrev pub pid_tag : List ℕ → ℕ → Option Tag
pid_tag text program =
    let pid = prefix_len is_pid_byte (drop (program + 1) text) in
    let end = program + 1 + pid in
    if nat_lt 0 pid && has_at text end 93
    then Some
    (record { program = program; pid = Some pid; len = past text (past text (end + 1) 58) 32 })
    else None

-- the tag, with the program's name and the process id (sections 4.1.3 and 5.3)
abbrev pub tag : List ℕ → Option Tag
tag text =
    let program = prefix_len is_program_byte text in
    if program == 0 then None
    else (if has_at text program 58 then plain_tag text program
    else (if has_at text program 91 then pid_tag text program else None))

-- what the tag names, and what it leaves
abbrev pub program_of : Option Tag → List ℕ → Option (List ℕ)
program_of None text = None
program_of (Some tag) text = Some (slice_range text 0 tag.program)

abbrev pub pid_of : Option Tag → List ℕ → Option (List ℕ)
pid_of None text = None
pid_of (Some tag) text =
    option_map (λ pid. slice_range text (tag.program + 1) (tag.program + 1 + pid)) tag.pid

abbrev pub behind_tag : Option Tag → List ℕ → List ℕ
behind_tag None text = text
behind_tag (Some tag) text = drop tag.len text
