mod NumeralSteps
mod WordSteps
mod LineSteps
