-- What stands at a path where a desk is to be, and why it is no file of one.
use Rattle.std.specs.Prelude.{◌==◌, if◌then◌else◌, Option, None, Some}
use Rattle.tc_host.specs.declared.because.Because.{Because}
use Rattle.tc_host.specs.declared.because.Because.TheVariants as because
use Rattle.tc_host.specs.declared.standing.Found.{Found}
use Rattle.tc_host.specs.declared.standing.Standing.{Standing}
use Rattle.tc_host.specs.declared.standing.Standing.TheVariants.{Bytes, Empty, Folder, Special}

-- a folder; what is neither that nor a file; a file of no bytes; a file that has some
abbrev pub what_stands : Found → Standing
what_stands found =
    if found.is_folder then Folder else
    if found.is_file then (if found.bytes == 0 then Empty else Bytes) else Special

-- only a file that has bytes may be a desk's
abbrev pub why_no_file : Standing → Option Because
why_no_file Folder = Some because.Folder
why_no_file Special = Some because.Special
why_no_file Empty = Some because.Empty
why_no_file Bytes = None
