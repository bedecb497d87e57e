-- A file with a mark beside its store is the inlet that the file is.
use Rattle.sg_device.specs.Inlet.{InletState}
use Rattle.sg_file.specs.Inlet.{inlet_of}
use Rattle.sg_host.specs.declared.marked.MarkedFile.{MarkedFile}

abbrev pub marked_of : MarkedFile → InletState
marked_of marked = inlet_of marked.file
