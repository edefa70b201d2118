-- What a service comes to once its database was closed.
use Rattle.std.specs.Prelude.{Option, None, Some, Result, Err}
use Rattle.tc_host.specs.declared.because.Unusable.{Unusable}
use Rattle.tc_cli.specs.declared.serving.ServiceFault.{ServiceFault}
use Rattle.tc_cli.specs.declared.serving.ServiceFault.TheVariants.{Desk, Stopped}

-- What it came to stands where the closing did not fail. A desk that had stopped has stopped, for the reason that the closing tells; any other cannot be used.
abbrev pub after_closing : {T : Type 0} → Option Unusable → Result T ServiceFault → Result T ServiceFault
after_closing None ended = ended
after_closing (Some why) (Err (Stopped because)) = Err (Stopped why.because)
after_closing (Some why) ended = Err (Desk why)
