use Rattle.std.proofs.Common.{sym, ◌∙◌, rules}
use Rattle.message.specs.declared.message.Message.TheVariants.{StationId, ShortName, Frame, Location, Service, Parameter, Universal}
use Rattle.message.proofs.Messages.{via, station_read, short_name_read, frame_read, half_read, service_read, parameter_read, universal_read}
use Rattle.message.proofs.message.Message.payload.Goals as goal

pub returns-in-StationId : goal.returns-in-StationId
returns-in-StationId c = record {
  value = search rules;
  read_again = λ p e. via c.args.self (StationId c.in-StationId.station) p c.in-StationId.is (station_read c.in-StationId.station p (sym c.payload.ensures ∙ e));
}

pub returns-in-ShortName : goal.returns-in-ShortName
returns-in-ShortName c = record {
  value = search rules;
  read_again = λ p e. via c.args.self (ShortName c.in-ShortName.name) p c.in-ShortName.is (short_name_read c.in-ShortName.name p (sym c.payload-in-ShortName.ensures ∙ e));
}

pub returns-in-Location : goal.returns-in-Location
returns-in-Location c = record {
  value = search rules;
  read_again = λ p e. via c.args.self (Location c.in-Location.half) p c.in-Location.is (half_read c.in-Location.half p (sym c.payload-in-Location.ensures ∙ e));
}

pub returns-in-Service : goal.returns-in-Service
returns-in-Service c = record {
  value = search rules;
  read_again = λ p e. let again = c.payload-in-Service.ensures.read_again p e in via c.args.self (Service c.in-Service.service) p c.in-Service.is (service_read c.in-Service.service p again.0 again.1);
}

pub returns-in-Parameter : goal.returns-in-Parameter
returns-in-Parameter c = record {
  value = search rules;
  read_again = λ p e. let again = c.payload-in-Parameter.ensures.read_again p e in via c.args.self (Parameter c.in-Parameter.parameter) p c.in-Parameter.is (parameter_read c.in-Parameter.parameter p again.0 again.1);
}

pub returns-in-Universal : goal.returns-in-Universal
returns-in-Universal c = record {
  value = search rules;
  read_again = λ p e. via c.args.self (Universal c.in-Universal.payload) p c.in-Universal.is (universal_read c.in-Universal.payload p (sym c.whole_area-in-Universal.ensures ∙ e));
}

pub returns-in-Frame : goal.returns-in-Frame
returns-in-Frame c = record {
  value = search rules;
  read_again = λ p e. via c.args.self (Frame c.in-Frame.field-0 c.in-Frame.payload) p c.in-Frame.is (frame_read c.in-Frame.field-0 c.in-Frame.payload p (sym c.whole_area.ensures ∙ e));
}
