-- Drivers and options: what is read, or the first fault.
use Rattle.std.specs.Prelude.{ℕ, List, Option}
use Rattle.sg_parse_base.specs.Input.{Parser}
use Rattle.sg_parse_base.specs.Lists.{many, body}
use Rattle.sg_parse_expr.specs.declared.tree.Call.{Call}
use Rattle.sg_parse_expr.specs.declared.tree.Arg.{Arg}
use Rattle.sg_parse_expr.specs.Forms.{row_of}
use Rattle.sg_parse_expr.specs.Args.{flat_args, called, nested, named}
use Rattle.sg_parse_obj.specs.declared.table.OptionForm.{OptionForm}
use Rattle.sg_parse_obj.specs.declared.table.OptionForm.TheVariants as option
use Rattle.sg_parse_obj.specs.declared.table.DriverForm.{DriverForm}
use Rattle.sg_parse_obj.specs.declared.table.DriverForm.TheVariants as form
use Rattle.sg_parse_obj.specs.declared.table.OptionTable.{OptionTable}
use Rattle.sg_parse_obj.specs.declared.driver.Side.{Side}
use Rattle.sg_parse_obj.specs.declared.driver.Side.TheVariants as side
use Rattle.sg_parse_obj.specs.Tables.{source_drivers, destination_drivers, disk, global_form, option_form}

unfoldable pub disk_option : Parser Arg
disk_option = nested (called (row_of disk) flat_args)

unfoldable pub option_args : OptionForm → Parser (List Arg)
option_args (option.Flat form) = flat_args form
option_args option.Disk = many disk_option

unfoldable pub driver_option : OptionTable → Parser Arg
driver_option table = nested (called (option_form table) option_args)

unfoldable pub driver_args : DriverForm → Parser (List Arg)
driver_args (form.Options table) = many (driver_option table)
driver_args (form.Named class table) = named class (driver_option table)

unfoldable pub driver_form : Side → List ℕ → Option DriverForm
driver_form side.Source text = row_of source_drivers text
driver_form side.Destination text = row_of destination_drivers text

unfoldable pub driver : Side → Parser Call
driver side = called (driver_form side) driver_args

-- "{" { driver ";" } "}"
unfoldable pub drivers : Side → Parser (List Call)
drivers side = body (driver side)

unfoldable pub global_option : Parser Call
global_option = called global_form flat_args
