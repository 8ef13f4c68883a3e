pub mod PlayedOver
