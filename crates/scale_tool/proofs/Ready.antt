-- What a host is ready for.
use Rattle.std.proofs.Common.{[], length, refl}
use Rattle.std.specs.Prelude.{Option, Some, None, IsSomeAnd}
use Rattle.host_files.specs.HostState.{Files, HostState}
use Rattle.scale_tool.specs.Command.{Help}
use Rattle.host_runs.specs.Command.{HasFiles, HasRoomForAll}
use Rattle.host_runs.specs.Delivered.{HasRoom}
use Rattle.scale_tool.specs.Answer.{MakesAsked, bad_command, bad_command_text, help, help_text}
use Rattle.scale_tool.specs.Tool.{IsReadyFor}

-- it has room for the line for words that are no command
pub room_for_words : (host : HostState) → IsReadyFor None host → HasRoom host.room [] (length bad_command_text)
room_for_words host ready = told host.files ready.1
  where
    told : (o : Option Files) → IsSomeAnd o (λ files. HasFiles [] files × HasRoomForAll [] (MakesAsked None) files host.room) → HasRoom host.room [] (length bad_command_text)
    told None has = absurd has
    told (Some files) has = has.1 bad_command refl

-- it has room for the text of `help`
pub room_for_help : (host : HostState) → IsReadyFor (Some Help) host → HasRoom host.room [] (length help_text)
room_for_help host ready = told host.files ready.1
  where
    told : (o : Option Files) → IsSomeAnd o (λ files. HasFiles [] files × HasRoomForAll [] (MakesAsked (Some Help)) files host.room) → HasRoom host.room [] (length help_text)
    told None has = absurd has
    told (Some files) has = has.1 help refl
